-- Where a receiver stands: what that says of the open frame, of the wire, and of the command in hand.
use Rattle.std.specs.Prelude.{◌≡◌, ℕ, ◌+◌, ◌≤◌, Bool, true, false, ◌&&◌, List, [], length, Some, None, Option, nat_le, nat_lt}
use Rattle.frame.specs.Layout.{length_field, command_most}
use Rattle.commands.specs.Requests.{stored_bytes}
use Rattle.part.specs.Parts.{Wire, Hand, none, unprotecting, doing, writing, setting, checking, erasing, protecting}
use Rattle.receiver.specs.declared.bounded_task.BoundedTask.{BoundedTask}
use Rattle.receiver.specs.declared.state.Order.{Order}
use Rattle.receiver.specs.declared.state.Order.TheVariants.{Ignore, Refuse, Tell, Show, Take}
use Rattle.receiver.specs.declared.state.State.{State}
use Rattle.receiver.specs.declared.state.State.TheVariants.{Unconnected, Between, Header, Data, Crc, Busy}
use Rattle.receiver.specs.declared.task.Task.{Task}
use Rattle.receiver.specs.declared.task.Task.TheVariants.{Writing, Setting, Checking, Erasing, Protecting, Unprotecting, AwaitingReset}
pub use Rattle.receiver.specs.Tasks.{bounded}

-- the header's length field names data that a frame may have, and some
abbrev pub has_data : List ℕ → Bool
has_data f = nat_lt 0 (length_field f) && nat_le (length_field f) command_most

-- the open frame has come as far as the state says
abbrev pub comes_to : State → List ℕ → Bool
comes_to Unconnected f = true
comes_to Between f = true
comes_to Header f = nat_lt 0 (length f) && nat_lt (length f) 4
comes_to Data f = has_data f && (nat_le 4 (length f) && nat_lt (length f) (4 + length_field f))
comes_to Crc f = has_data f && (nat_le (4 + length_field f) (length f) && nat_lt (length f) (6 + length_field f))
comes_to (Busy busy) f = true

-- connected or not, and the bytes of the open frame
abbrev pub wire_in : State → List ℕ → Wire
wire_in Unconnected f = record { connected = false; frame = [] }
wire_in Between f = record { connected = true; frame = [] }
wire_in Header f = record { connected = true; frame = f }
wire_in Data f = record { connected = true; frame = f }
wire_in Crc f = record { connected = true; frame = f }
wire_in (Busy busy) f = record { connected = true; frame = [] }

-- the command in hand that a task is; the data of a Write stand in the store
abbrev pub hand_for : Task → List ℕ → Hand
hand_for (Writing first words done) store = doing (writing first (stored_bytes store words) done)
hand_for (Setting first words) store = doing (setting first (stored_bytes store words))
hand_for (Checking first count value done register) store = doing (checking first count value done register)
hand_for (Erasing first count done) store = doing (erasing first count done)
hand_for Protecting store = doing protecting
hand_for (Unprotecting done) store = unprotecting done
hand_for AwaitingReset store = none

abbrev pub hand_in : State → List ℕ → Hand
hand_in Unconnected store = none
hand_in Between store = none
hand_in Header store = none
hand_in Data store = none
hand_in Crc store = none
hand_in (Busy busy) store = hand_for busy.task store

-- the ticket is out
abbrev pub ticket_for : Task → Bool
ticket_for (Writing first words done) = false
ticket_for (Setting first words) = false
ticket_for (Checking first count value done register) = false
ticket_for (Erasing first count done) = false
ticket_for Protecting = false
ticket_for (Unprotecting done) = false
ticket_for AwaitingReset = true

abbrev pub ticket_in : State → Bool
ticket_in Unconnected = false
ticket_in Between = false
ticket_in Header = false
ticket_in Data = false
ticket_in Crc = false
ticket_in (Busy busy) = ticket_for busy.task

-- a command is in hand or the ticket is out
abbrev pub busy_in : State → Bool
busy_in Unconnected = false
busy_in Between = false
busy_in Header = false
busy_in Data = false
busy_in Crc = false
busy_in (Busy busy) = true

-- what a receiver is busy with
abbrev pub task_in : State → Option BoundedTask
task_in Unconnected = None
task_in Between = None
task_in Header = None
task_in Data = None
task_in Crc = None
task_in (Busy busy) = Some busy

-- an order shows no more than an answer holds, and its task is a command
abbrev pub Modest : Order → Type 0
Modest Ignore = Unit {0}
Modest (Refuse code) = Unit {0}
Modest (Tell what) = Unit {0}
Modest (Show area first count) = count ≤ 128
Modest (Take busy) = ticket_for busy.task ≡ false
