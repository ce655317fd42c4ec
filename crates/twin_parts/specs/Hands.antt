-- Commands in hand, compared.
use Rattle.std.specs.Prelude.{◌≡◌, ℕ, List, [], Some, None, Option}
use Rattle.commands.specs.Requests.{stored_bytes}
use Rattle.receiver.specs.declared.bounded_task.BoundedTask.{BoundedTask}
use Rattle.receiver.specs.declared.receiver.Receiver.{Receiver}
use Rattle.receiver.specs.declared.task.Task.{Task}
use Rattle.receiver.specs.declared.task.Task.TheVariants.{Writing, Setting, Checking, Erasing, Protecting, Unprotecting, AwaitingReset}
use Rattle.receiver.specs.Receivers.{wire_of, hand_of, ticket_of}

-- the data of a Write, in a store; no other command has data
abbrev pub task_data : Task → List ℕ → List ℕ
task_data (Writing first words done) store = stored_bytes store words
task_data (Setting first words) store = stored_bytes store words
task_data (Checking first count value done register) store = []
task_data (Erasing first count done) store = []
task_data Protecting store = []
task_data (Unprotecting done) store = []
task_data AwaitingReset store = []

-- the data of what is in hand, if a command is
abbrev pub data_in : Option BoundedTask → List ℕ → List ℕ
data_in None store = []
data_in (Some busy) store = task_data busy.task store

-- two receivers agree on the wire, on the command in hand and on the ticket
pub record Alike (a b : Receiver) : Type 0 where
  pub wire : wire_of a ≡ wire_of b
  pub hand : hand_of a ≡ hand_of b
  pub ticket : ticket_of a ≡ ticket_of b
