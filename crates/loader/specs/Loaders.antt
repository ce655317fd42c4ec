-- The part that a loader is, and what its answers say.
use Rattle.std.specs.Prelude.{ℕ, false, List, [], length}
use Rattle.flash.specs.Meaning.{Meaning}
use Rattle.part.specs.Events.{Said, nothing, small_buffer, silent, accepted, resting, ongoing, bytes, bytes_and_ticket, fault}
use Rattle.part.specs.Parts.{Part}
use Rattle.part.specs.Receiving.{Heard, answered}
use Rattle.frame.specs.Places.{judged}
use Rattle.receiver.specs.Stores.{held}
use Rattle.receiver.specs.Receivers.{wire_of, hand_of, ticket_of}
use Rattle.loader.specs.declared.answers.Received.{Received}
use Rattle.loader.specs.declared.answers.Received.TheVariants as received
use Rattle.loader.specs.declared.answers.Worked.{Worked}
use Rattle.loader.specs.declared.answers.Worked.TheVariants as worked
use Rattle.loader.specs.declared.loader.Loader.{Loader}
use Rattle.loader.specs.declared.ticket.Ticket.{Ticket}

-- the part that a loader over a flash is, by the meaning of that flash
module _ {F : Type 0} (meaning : F → Meaning) where
  abbrev pub part_of : Loader F → Part
  part_of l = record {
    identity = l.identity;
    wire = wire_of l.receiver;
    hand = hand_of l.receiver;
    ticket = ticket_of l.receiver;
    level = l.level;
    last = l.last;
    flash = meaning l.flash;
  }

  -- what is heard of the whole frame that a loader holds
  unfoldable pub order_of : Loader F → Heard
  order_of l = answered l.identity l.level (meaning l.flash) (judged l.level (meaning l.flash).pages (held l.receiver.store))

-- the bytes of an answer, which stand at the head of the buffer
abbrev pub said_bytes : Said → List ℕ
said_bytes nothing = []
said_bytes small_buffer = []
said_bytes silent = []
said_bytes accepted = []
said_bytes resting = []
said_bytes ongoing = []
said_bytes (bytes bs) = bs
said_bytes (bytes_and_ticket bs) = bs
said_bytes (fault report) = []

-- a ticket that is out
abbrev pub unspent : Ticket
unspent = record { spent = false }

-- what the definitions say, as the enum that a byte is answered with: a count is that of the bytes at the head of the buffer.
-- The cases that no byte has are given as quiet
abbrev pub received_as : Said → Received
received_as nothing = received.Quiet
received_as small_buffer = received.SmallBuffer
received_as silent = received.Quiet
received_as accepted = received.TakenUp
received_as resting = received.Quiet
received_as ongoing = received.Quiet
received_as (bytes bs) = received.Bytes (length bs)
received_as (bytes_and_ticket bs) = received.Quiet
received_as (fault report) = received.Quiet

-- the same of a work call; the cases that none has are given as idle
abbrev pub worked_as : Said → Worked Ticket
worked_as nothing = worked.Idle
worked_as small_buffer = worked.SmallBuffer
worked_as silent = worked.Idle
worked_as accepted = worked.Idle
worked_as resting = worked.Idle
worked_as ongoing = worked.Going
worked_as (bytes bs) = worked.Bytes (length bs)
worked_as (bytes_and_ticket bs) = worked.BytesAndTicket (length bs) unspent
worked_as (fault report) = worked.Idle
