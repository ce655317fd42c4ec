-- A word of an area that is there.
use Rattle.std.proofs.Common.{◌≡◌, ℕ, ◌<◌, length, get_or, Some, arith}
use Rattle.std.proofs.lemmas.Bool.Decides.{nat_tests}
use Rattle.areas.specs.declared.map.Area.{Area}
use Rattle.flash.specs.Meaning.{Meaning}
use Rattle.memory.specs.Portions.{word_in, area_words}

pub present : (m : Meaning) (area : Area) (i w : ℕ) → Some w ≡ word_in m area i → (i < length (area_words m area)) × (w ≡ get_or (area_words m area) i 0)
present m area i w e = (grind (arith, nat_tests), grind (arith, nat_tests))
