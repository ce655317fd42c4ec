-- Locked twins.
use Rattle.std.specs.Prelude.{◌≡◌, List}
use Rattle.flash.specs.Meaning.{Meaning, Sound}
use Rattle.commands.specs.declared.kinds.Level.TheVariants.{Locked}
use Rattle.part.specs.declared.identity.Identity.{Identity}
use Rattle.part.specs.Events.{Event, answers, run}
use Rattle.part.specs.Laws.{OneList}
use Rattle.part.specs.Parts.{Part, started, outward}

-- two parts stand at level 1 and agree in all but their user words
pub record LockedTwins (p q : Part) : Type 0 where
  pub left : p.level ≡ Locked
  pub right : q.level ≡ Locked
  pub agree : outward p ≡ outward q

-- two parts, each of which came from a start by a list of its own, answer one list alike, at every place
abbrev pub AlikeForGood : Part → Part → Type 0
AlikeForGood p q =
    (i j : Identity) (m n : Meaning) → Sound m → Sound n
    → (own other : List Event) → p ≡ run (started i m) own → q ≡ run (started j n) other
    → (es fs : List Event) → OneList p es fs → answers p es ≡ answers q fs
