-- The part that a loader with its ticket is, and what its answers say.
use Rattle.flash.specs.Meaning.{Meaning}
use Rattle.flash.specs.declared.interface.Flash.{Ghosts}
use Rattle.part.specs.Events.{Said}
use Rattle.part.specs.Parts.{Part}
use Rattle.loader.specs.declared.answers.Answer.{Answer}
use Rattle.loader.specs.declared.running.Running.{Running}
use Rattle.loader.specs.Answers.{answer_of}
use Rattle.loader.specs.Loaders.{part_of, worked_as}

module _ {F : Type 0} {g : Ghosts F} (meaning : F → Meaning) where
  abbrev pub part_running : Running F g → Part
  part_running r = part_of meaning r.loader

-- what the definitions say of a work call, as the enum that it is answered with: a work call's answer, without the ticket
abbrev pub answered_as : Said → Answer
answered_as said = answer_of (worked_as said)
