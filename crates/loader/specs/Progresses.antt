-- How a portion of the code ended, in the words of the part.
use Rattle.std.specs.Prelude.{ℕ, List, Ok, Err, Result}
use Rattle.memory.specs.declared.fault.MemoryFault.{MemoryFault}
use Rattle.memory.specs.Reports.{in_memory}
use Rattle.part.specs.Parts.{Hand, none}
use Rattle.part.specs.Working.{Outcome, idle, going, done, done_ticket, differs, refused, Portion}
use Rattle.receiver.specs.States.{hand_for}
use Rattle.loader.specs.declared.progress.Progress.{Progress}
use Rattle.part.specs.declared.report.CommandFault.{CommandFault}
use Rattle.loader.specs.Faults.{in_command}
use Rattle.loader.specs.declared.progress.Progress.TheVariants.{Going, Done, DoneWithTicket, Differs}

-- the command in hand then, the data of a Write being in the store; and how the portion ended
abbrev pub hand_after : List ℕ → Progress → Hand
hand_after store (Going task) = hand_for task.task store
hand_after store Done = none
hand_after store DoneWithTicket = none
hand_after store Differs = none

abbrev pub outcome_of : Progress → Outcome
outcome_of (Going task) = going
outcome_of Done = done
outcome_of DoneWithTicket = done_ticket
outcome_of Differs = differs

-- the same of a result: a refusal of the flash ends the command
abbrev pub ended : {E : Type 0} → List ℕ → Result Progress E → Result (Hand × Outcome) E
ended store (Ok progress) = Ok (hand_after store progress, outcome_of progress)
ended store (Err fault) = Err fault

-- what a portion of the definitions leaves: the command in hand and the outcome, or the memory's refusal
abbrev pub left_as : Outcome → Hand → Result (Hand × Outcome) MemoryFault
left_as idle hand = Ok (hand, idle)
left_as going hand = Ok (hand, going)
left_as done hand = Ok (hand, done)
left_as done_ticket hand = Ok (hand, done_ticket)
left_as differs hand = Ok (hand, differs)
left_as (refused fault) hand = Err (in_memory fault)

abbrev pub left_by : Portion → Result (Hand × Outcome) MemoryFault
left_by p = left_as p.outcome p.hand

-- the memory's refusal as that of the command of a code
abbrev pub coded : ℕ → Result (Hand × Outcome) MemoryFault → Result (Hand × Outcome) CommandFault
coded code (Ok x) = Ok x
coded code (Err fault) = Err (in_command code fault)
