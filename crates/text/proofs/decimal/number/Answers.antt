use Rattle.std.proofs.Common.{◌≡◌, true, None, Some, sym, ap, ◌∙◌, arith}
use Rattle.std.proofs.lemmas.Bool.Decides.{nat_tests}
use Rattle.std.proofs.lemmas.Grind.{common_steps}
use Rattle.text.specs.Digits.{number_in, no_leading_zeros}
use Rattle.text.proofs.Numbers.{no_digits, too_large_on, is_number, all_read, digit_none}
use Rattle.text.proofs.Spelled.{number_reads}
use Rattle.text.proofs.decimal.number.Goals as goal

pub returns-in-empty-clause-is_the_number_whose_text_the_word_is : goal.returns-in-empty-clause-is_the_number_whose_text_the_word_is
returns-in-empty-clause-is_the_number_whose_text_the_word_is c = number_reads c.args.word.now _ (grind (arith, common_steps))

pub returns-in-empty-2-clause-is_the_number_whose_text_the_word_is : goal.returns-in-empty-2-clause-is_the_number_whose_text_the_word_is
returns-in-empty-2-clause-is_the_number_whose_text_the_word_is c = number_reads c.args.word.now _ (grind (arith, common_steps))

pub returns-then-not-is_ascii_digit : goal.returns-then-not-is_ascii_digit
returns-then-not-is_ascii_digit c =
    let w = c.args.word.now in
    let none = digit_none w c.loop-c.c-index c.loop-c-test.true (sym c.if-not-is_ascii_digit.ensures.value) in
    let e : None ≡ number_in w = sym (no_digits w (sym c.loop-c.invariant.0 ∙ none)) in
    record { reads_decimal_digits = e; is_the_number_whose_text_the_word_is = number_reads w _ e }

pub returns-in_err-checked_mul : goal.returns-in_err-checked_mul
returns-in_err-checked_mul c =
    let w = c.args.word.now in
    let e : c.from_residual.result ≡ number_in w = c.from_residual.ensures ∙ too_large_on w c.loop-c.c-index c.loop-c.value c.loop-c-test.true c.loop-c.invariant.1 (omega arith) in
    record { reads_decimal_digits = e; is_the_number_whose_text_the_word_is = number_reads w _ e }

pub returns-in_err-value : goal.returns-in_err-value
returns-in_err-value c =
    let w = c.args.word.now in
    let e : c.from_residual-in_err-value.result ≡ number_in w =
    c.from_residual-in_err-value.ensures ∙ too_large_on w c.loop-c.c-index c.loop-c.value c.loop-c-test.true c.loop-c.invariant.1 (omega arith) in
    record { reads_decimal_digits = e; is_the_number_whose_text_the_word_is = number_reads w _ e }

pub returns : goal.returns
returns c =
    let w = c.args.word.now in
    let p = all_read w c.loop-c.value c.loop-c.c-index c.loop-c-test.false c.loop-c.invariant.0 c.loop-c.invariant.1 in
    let begins : no_leading_zeros w ≡ true = grind (arith, nat_tests) in
    let e : Some c.loop-c.value ≡ number_in w = ap Some p.1 ∙ sym (is_number w p.0 begins (omega (arith, p.1))) in
    record { reads_decimal_digits = e; is_the_number_whose_text_the_word_is = number_reads w _ e }
