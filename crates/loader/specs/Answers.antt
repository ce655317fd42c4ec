-- A work call's answer and its ticket, apart.
use Rattle.std.specs.Prelude.{Some, None, Option}
use Rattle.loader.specs.declared.answers.Answer.{Answer}
use Rattle.loader.specs.declared.answers.Answer.TheVariants as answer
use Rattle.loader.specs.declared.answers.Worked.{Worked}
use Rattle.loader.specs.declared.answers.Worked.TheVariants.{SmallBuffer, Idle, Going, Bytes, BytesAndTicket}

-- the answer without the ticket
abbrev pub answer_of : {T : Type 0} → Worked T → Answer
answer_of SmallBuffer = answer.SmallBuffer
answer_of Idle = answer.Idle
answer_of Going = answer.Going
answer_of (Bytes count) = answer.Bytes count
answer_of (BytesAndTicket count ticket) = answer.BytesAndTicket count

-- the ticket, if one came
abbrev pub ticket_of : {T : Type 0} → Worked T → Option T
ticket_of SmallBuffer = None
ticket_of Idle = None
ticket_of Going = None
ticket_of (Bytes count) = None
ticket_of (BytesAndTicket count ticket) = Some ticket

-- an answer without a ticket, with nothing in the ticket's place
abbrev pub worked_of : Answer → Worked (Unit {0})
worked_of answer.SmallBuffer = SmallBuffer
worked_of answer.Idle = Idle
worked_of answer.Going = Going
worked_of (answer.Bytes count) = Bytes count
worked_of (answer.BytesAndTicket count) = BytesAndTicket count tt
