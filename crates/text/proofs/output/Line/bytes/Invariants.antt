use Rattle.std.proofs.Common.{◌≡◌, ◌++◌, map, drop}
use Rattle.text.specs.Digits.{hex_byte}
use Rattle.text.specs.Lines.{more_words}
use Rattle.text.proofs.output.Line.bytes.Given as goal

abbrev pub invariant-loop-byte : goal.invariant-loop-byte
invariant-loop-byte l =
    l.line ++ more_words (map hex_byte (drop l.byte-index l.bytes))
    ≡ l.initial.line ++ more_words (map hex_byte l.bytes)
