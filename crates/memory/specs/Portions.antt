-- What one portion of a memory's work answers and leaves, over any flash.
use Rattle.std.specs.Prelude.{ℕ, cond, List, [], length, take, drop, Some, None, Ok, Err, Option, Result, nat_lt, slice_index}
use Rattle.areas.specs.declared.map.Area.{Area}
use Rattle.areas.specs.declared.map.Area.TheVariants.{User, Options, Outside}
use Rattle.flash.specs.declared.fault.FlashFault.{FlashFault}
use Rattle.flash.specs.Lists.{overwritten}
use Rattle.flash.specs.Meaning.{Meaning}
use Rattle.memory.specs.declared.fault.MemoryFault.{MemoryFault}
use Rattle.memory.specs.Reports.{in_memory}

-- a flash's answer, a refusal with its address
abbrev pub addressed : {X : Type 0} → Result X FlashFault → Result X MemoryFault
addressed (Ok x) = Ok x
addressed (Err fault) = Err (in_memory fault)

-- the option words with some replaced, from a number on; the others are kept, and there are four
abbrev pub options_replaced : ℕ → List ℕ → List ℕ → List ℕ
options_replaced i words options = overwritten i words options

-- the words of an area
abbrev pub area_words : Meaning → Area → List ℕ
area_words m User = m.words
area_words m Options = m.options
area_words m Outside = []

-- a word of an area, if there is one
abbrev pub word_in : Meaning → Area → ℕ → Option ℕ
word_in m area i = cond (nat_lt i (length (area_words m area))) (Some (slice_index (area_words m area) i)) None

-- so many words of an area from a number on, or as many as there are
abbrev pub words_at : Meaning → Area → ℕ → ℕ → List ℕ
words_at m area first count = take count (drop first (area_words m area))
