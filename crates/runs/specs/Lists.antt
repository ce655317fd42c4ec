-- What a list of events means, and what rows say, in the words of the part.
use Rattle.std.specs.Prelude.{ℕ, List, map, take, vec_items}
use Rattle.loader.specs.declared.answers.Answer.{Answer}
use Rattle.loader.specs.declared.answers.Answer.TheVariants as answer
use Rattle.loader.specs.declared.answers.Received.{Received}
use Rattle.loader.specs.declared.answers.Received.TheVariants as received
use Rattle.part.specs.Events as part
use Rattle.part.specs.Parts.{Part}
use Rattle.runs.specs.declared.events.Event.{Event}
use Rattle.runs.specs.declared.events.Event.TheVariants.{Byte, Work, AskFault, Reset}
use Rattle.runs.specs.declared.events.Row.{Row}
use Rattle.runs.specs.declared.events.Said.{Said}
use Rattle.runs.specs.declared.events.Said.TheVariants.{Nothing, SmallBuffer, Silent, Accepted, Resting, Ongoing, Bytes, BytesAndTicket, Fault}

-- an event of the code as one of the definitions
abbrev pub event_of : Event → part.Event
event_of (Byte b room) = part.byte b room
event_of (Work room) = part.work room
event_of AskFault = part.ask_fault
event_of Reset = part.reset

abbrev pub events_of : List Event → List part.Event
events_of es = map event_of es

-- an answer of the code as one of the definitions
abbrev pub said_of : Said → part.Said
said_of Nothing = part.nothing
said_of SmallBuffer = part.small_buffer
said_of Silent = part.silent
said_of Accepted = part.accepted
said_of Resting = part.resting
said_of Ongoing = part.ongoing
said_of (Bytes bs) = part.bytes (vec_items bs)
said_of (BytesAndTicket bs) = part.bytes_and_ticket (vec_items bs)
said_of (Fault report) = part.fault report

abbrev pub row_of : Row → part.Row
row_of r = record { said = said_of r.said; report = r.report }

abbrev pub rows_of : List Row → List part.Row
rows_of rs = map row_of rs

-- the row of one event, done to a part
abbrev pub row_at : Part → part.Event → part.Row
row_at p e = record { said = part.says p e; report = (part.step p e).last }

-- what a loader's answer to a byte says, with the buffer as it was left; and its answer to a work call
abbrev pub byte_answer : Received → List ℕ → part.Said
byte_answer received.SmallBuffer buffer = part.small_buffer
byte_answer received.Quiet buffer = part.silent
byte_answer received.TakenUp buffer = part.accepted
byte_answer (received.Bytes count) buffer = part.bytes (take count buffer)

abbrev pub work_answer : Answer → List ℕ → part.Said
work_answer answer.SmallBuffer buffer = part.small_buffer
work_answer answer.Idle buffer = part.resting
work_answer answer.Going buffer = part.ongoing
work_answer (answer.Bytes count) buffer = part.bytes (take count buffer)
work_answer (answer.BytesAndTicket count) buffer = part.bytes_and_ticket (take count buffer)
