use Rattle.std.proofs.Common.{◌≡◌, ◌^◌, ◌<◌, drop}
use Rattle.std.specs.Str.{all_ascii_digits}
use Rattle.text.specs.Digits.{number_after}
use Rattle.text.proofs.decimal.number.Given as goal

abbrev pub invariant-loop-c : goal.invariant-loop-c
invariant-loop-c l =
    (all_ascii_digits (drop l.c-index l.word) ≡ all_ascii_digits l.word)
    × (number_after l.value (drop l.c-index l.word) ≡ number_after 0 l.word)
    × (l.value < 2 ^ 32)
