use Rattle.std.proofs.Common.{◌≡◌, ◌++◌, vec_items}
use Rattle.std.specs.Option.{option_map}
use Rattle.text.specs.Digits.{byte_in}
use Rattle.text.specs.Lines.{all_by}
use Rattle.text.proofs.words.Words.bytes.Given as goal

abbrev pub invariant-loop-word : goal.invariant-loop-word
invariant-loop-word l = option_map (λ bs. vec_items l.bytes ++ bs) (all_by byte_in l.word-iterator) ≡ all_by byte_in l.initial.word-iterator
