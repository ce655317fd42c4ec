-- What a reader of words has still to read.
use Rattle.std.specs.Prelude.{ℕ, List, [], Some, None, Option}
use Rattle.std.specs.Borrow.{Bor}
use Rattle.text.specs.declared.words.Words.TheInside.{Inside}
use Rattle.text.specs.Lines.{pieces}

-- the words of a text, if there is one
abbrev pub unread : Option (Bor (List ℕ)) → List (List ℕ)
unread None = []
unread (Some text) = pieces text.now

-- the words to come
abbrev pub left : Inside → List (List ℕ)
left words = unread words.rest
