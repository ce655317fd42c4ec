use Rattle.std.proofs.Common.{◌≡◌, ◌+◌, ◌*◌, Some, None, sym, ap, ◌∙◌, arith}
use Rattle.std.specs.ControlFlow.{continue_value}
use Rattle.std.specs.Option.{option_map}
use Rattle.text.specs.Digits.{short_in}
use Rattle.text.proofs.Spelled.{short_halves, short_reads}
use Rattle.text.proofs.hexadecimal.U16Hexadecimal.read.Goals as goal

pub returns-in_err-high : goal.returns-in_err-high
returns-in_err-high c =
    let w = c.args.word.now in
    let e = short_halves w c.halves.result c.halves.ensures.reads_both_halves in
    let none : c.halves.result ≡ None = c.branch-high.ensures ∙ ap continue_value c.in_err-high.is in
    let same : c.from_residual.result ≡ short_in w = c.from_residual.ensures ∙ ap (option_map (λ p. p.0 * 256 + p.1)) (sym none) ∙ e in
    record { reads_the_digits = same; is_the_number_whose_text_the_word_is = short_reads w _ same }

pub returns : goal.returns
returns c =
    let w = c.args.word.now in
    let e = short_halves w c.halves.result c.halves.ensures.reads_both_halves in
    let made : c.from_be_bytes.result ≡ c.in_ok-high.high * 256 + c.in_ok-high.low = omega (arith, c.from_be_bytes.ensures) in
    let same : Some c.from_be_bytes.result ≡ short_in w = ap Some made ∙ ap (option_map (λ p. p.0 * 256 + p.1)) (sym c.in_ok-high.was) ∙ e in
    record { reads_the_digits = same; is_the_number_whose_text_the_word_is = short_reads w _ same }
