use Rattle.std.proofs.Common.{ℕ, List, [], ◌∷◌, vec_items, codes, decimal, ◌∙◌, ap₂}
use Rattle.std.proofs.lemmas.Result.{IfOk-weaker}
use Rattle.text.proofs.Added.{words_added, line_made}
use Rattle.text.specs.Digits.{hex_byte, hex_long}
use Rattle.text.specs.Lines.{line_text, more_words}
use Rattle.bench_script.proofs.sayings.report_line.Goals as goal

pub returns : goal.returns
returns c =
    let cause : List ℕ = c.cause_word.result.now in
    let number : List ℕ = decimal c.number_of.result in
    let address : List ℕ = hex_long c.args.report.memory.address in
    let command : List ℕ = hex_byte c.args.report.command in
    let first : List ℕ = c.in_ok-new.field-0 in
    let two = words_added first c.in_ok-word.field-0 c.in_ok-number.field-0 (cause ∷ []) number
    c.in_ok-word.ensures.has_one_more_word c.in_ok-number.ensures.has_one_more_word_of_decimal_digits in
    let three = words_added first c.in_ok-number.field-0 c.in_ok-hexadecimal.field-0 (cause ∷ number ∷ []) address
    two c.in_ok-hexadecimal.ensures.has_one_more_word_of_its_digits in
    let four = words_added first c.in_ok-hexadecimal.field-0 c.in_ok-hexadecimal-2.field-0 (cause ∷ number ∷ address ∷ []) command
    three c.in_ok-hexadecimal-2.ensures.has_one_more_word_of_its_digits in
    record {
      is_the_line_of_the_report =
          IfOk-weaker c.finish.result _ _
          (λ v e.
          line_made (codes "fault") first (more_words (cause ∷ number ∷ address ∷ command ∷ [])) c.in_ok-hexadecimal-2.field-0 (vec_items v)
          c.in_ok-new.ensures.is_the_bracket_and_the_word four e
          ∙ ap₂ (λ w n. line_text (codes "fault") (w ∷ decimal n ∷ address ∷ command ∷ [])) c.cause_word.ensures.is_the_word_of_the_cause c.number_of.ensures.is_the_number_of_what_was_asked_for)
          c.finish.ensures.is_the_line_with_its_closing_bracket;
    }
