-- Events, and what a part does and answers over a list of them.
use Rattle.std.specs.Prelude.{ℕ, Bool, true, false, cond, ◌||◌, List, [], ◌∷◌, ◌++◌, Option, nat_lt}
use Rattle.commands.specs.declared.codes.Code.TheVariants.{Done, FlashRefused, WrongParameter}
use Rattle.flash.specs.Cuts.{Way, cut_written}
use Rattle.flash.specs.Effects.{Write, no_write, program_word, erase_page, set_options, written}
use Rattle.part.specs.declared.report.CommandFault.{CommandFault}
use Rattle.part.specs.Parts.{Part, Hand, none, unprotecting, doing, started, restarted}
use Rattle.part.specs.Receiving.{Heard, Reply, quiet, taken_up, replied, heard, code_answer}
use Rattle.part.specs.Working.{Outcome, idle, going, done, done_ticket, differs, refused, Portion, portion, reported}

-- What can happen to a part. The number beside a byte and a work call is the length of the caller's buffer.
pub data Event : Type 0 where
  -- one byte is received
  byte : ℕ → ℕ → Event
  -- one work call
  work : ℕ → Event
  -- the last fault report is asked for
  ask_fault : Event
  -- a reset that spends the ticket, if it is out
  reset : Event
  -- the supply fails outside of work calls, and the loader starts again
  cut : Event
  -- the supply fails inside a work call, in one of the three ways
  cut_work : ℕ → Way → Event

-- What an event is answered with.
pub data Said : Type 0 where
  -- no answer: a reset, a power cut
  nothing : Said
  -- the buffer has fewer than 518 bytes
  small_buffer : Said
  silent : Said
  accepted : Said
  resting : Said
  ongoing : Said
  -- so many bytes at the buffer's head, without or with a ticket
  bytes : List ℕ → Said
  bytes_and_ticket : List ℕ → Said
  -- the last fault report, or none
  fault : Option CommandFault → Said

-- the least buffer of a byte and of a work call
abbrev pub least_buffer : ℕ
least_buffer = 518

-- a command in hand or a ticket out: bytes are dropped
abbrev pub in_hand : Hand → Bool
in_hand none = false
in_hand (unprotecting k) = true
in_hand (doing task) = true

abbrev pub busy : Part → Bool
busy p = p.ticket || in_hand p.hand

-- ---- a byte

abbrev pub byte_said : Reply → Said
byte_said quiet = silent
byte_said taken_up = accepted
byte_said (replied bs) = bytes bs

-- the part after a byte was heard
abbrev pub after_byte : Part → Heard → Part
after_byte p h = record {
  identity = p.identity;
  wire = h.wire;
  hand = h.takes;
  ticket = p.ticket;
  level = p.level;
  last = p.last;
  flash = p.flash;
}

abbrev pub hears : Part → ℕ → Heard
hears p b = heard p.identity p.level p.flash p.wire b

abbrev pub byte_leaves : Part → ℕ → ℕ → Part
byte_leaves p b room = cond (nat_lt room least_buffer) p (cond (busy p) p (after_byte p (hears p b)))

abbrev pub byte_says : Part → ℕ → ℕ → Said
byte_says p b room = cond (nat_lt room least_buffer) small_buffer (cond (busy p) silent (byte_said (hears p b).reply))

-- ---- a work call

abbrev pub work_said : Outcome → Said
work_said idle = resting
work_said going = ongoing
work_said done = bytes (code_answer Done)
work_said done_ticket = bytes_and_ticket (code_answer Done)
work_said differs = bytes (code_answer WrongParameter)
work_said (refused why) = bytes (code_answer FlashRefused)

-- the ticket comes with the answer to a served option write, and from nowhere else
abbrev pub ticket_after : Outcome → Bool → Bool
ticket_after idle ticket = ticket
ticket_after going ticket = ticket
ticket_after done ticket = ticket
ticket_after done_ticket ticket = true
ticket_after differs ticket = ticket
ticket_after (refused why) ticket = ticket

-- the part after a portion
abbrev pub after_portion : Part → Portion → Part
after_portion p w = record {
  identity = p.identity;
  wire = p.wire;
  hand = w.hand;
  ticket = ticket_after w.outcome p.ticket;
  level = p.level;
  last = reported p.hand w.outcome p.last;
  flash = written w.writes p.flash;
}

abbrev pub next_portion : Part → Portion
next_portion p = portion p.hand p.flash

abbrev pub work_leaves : Part → ℕ → Part
work_leaves p room = cond (nat_lt room least_buffer) p (after_portion p (next_portion p))

abbrev pub work_says : Part → ℕ → Said
work_says p room = cond (nat_lt room least_buffer) small_buffer (work_said (next_portion p).outcome)

-- the write that a work call would make
abbrev pub work_writes : Part → ℕ → Write
work_writes p room = cond (nat_lt room least_buffer) no_write (next_portion p).writes

-- ---- resets and power cuts

-- a reset spends the ticket that is out; with none out it does nothing
abbrev pub reset_leaves : Part → Part
reset_leaves p = cond p.ticket (restarted p) p

-- a power cut inside a work call leaves the call's write in its way, and the loader starts again
abbrev pub cut_work_leaves : Part → ℕ → Way → Part
cut_work_leaves p room way = started p.identity (cut_written way (work_writes p room) p.flash)

-- ---- one event, and lists of them

unfoldable pub step : Part → Event → Part
step p (byte b room) = byte_leaves p b room
step p (work room) = work_leaves p room
step p ask_fault = p
step p reset = reset_leaves p
step p cut = restarted p
step p (cut_work room way) = cut_work_leaves p room way

unfoldable pub says : Part → Event → Said
says p (byte b room) = byte_says p b room
says p (work room) = work_says p room
says p ask_fault = fault p.last
says p reset = nothing
says p cut = nothing
says p (cut_work room way) = nothing

-- the part after a list
abbrev pub run : Part → List Event → Part
run p [] = p
run p (e ∷ es) = run (step p e) es

-- what is known of one place of a list from outside: the answer, and the fault report that stands then
pub record Row : Type 0 where
  pub said : Said
  pub report : Option CommandFault

abbrev pub answers : Part → List Event → List Row
answers p [] = []
answers p (e ∷ es) = record { said = says p e; report = (step p e).last } ∷ answers (step p e) es

-- ---- what happened

-- An unprotect frame was taken up, or a page was erased by a work call that came to its end.
pub data Happening : Type 0 where
  unprotect_taken : Happening
  page_erased : ℕ → Happening

abbrev pub taking_happened : Hand → List Happening
taking_happened none = []
taking_happened (unprotecting k) = unprotect_taken ∷ []
taking_happened (doing task) = []

abbrev pub write_happened : Write → List Happening
write_happened no_write = []
write_happened (program_word i v) = []
write_happened (erase_page k) = page_erased k ∷ []
write_happened (set_options os) = []

-- what an event makes happen
unfoldable pub happened : Part → Event → List Happening
happened p (byte b room) = cond (nat_lt room least_buffer) [] (cond (busy p) [] (taking_happened (hears p b).takes))
happened p (work room) = write_happened (work_writes p room)
happened p ask_fault = []
happened p reset = []
happened p cut = []
happened p (cut_work room way) = []

-- what happened over a list, in order
abbrev pub history : Part → List Event → List Happening
history p [] = []
history p (e ∷ es) = happened p e ++ history (step p e) es
