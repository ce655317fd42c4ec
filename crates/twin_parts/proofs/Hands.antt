-- A task is known by the command in hand that it is, and by the ticket.
use Rattle.std.proofs.Common.{◌≡◌, ℕ, ◌-◌, ◌*◌, ◌/◌, ◌≤◌, min, max, Bool, true, false, List, [], length, drop, Some, None, Option, sym, refl, ap, ◌∙◌, ap₂, arith}
use Rattle.std.proofs.lemmas.List.{length-take, length-drop}
use Rattle.std.proofs.lemmas.Bool.Decides.{nat_tests}
use Rattle.commands.specs.Requests.{stored_bytes}
use Rattle.part.specs.Parts.{Hand, none, unprotecting, doing, writing, setting, checking, erasing, protecting}
use Rattle.receiver.specs.declared.bounded_task.BoundedTask.{BoundedTask}
use Rattle.receiver.specs.declared.receiver.Receiver.{Receiver}
use Rattle.receiver.specs.declared.state.State.{State}
use Rattle.receiver.specs.declared.state.State.TheVariants.{Unconnected, Between, Header, Data, Crc, Busy}
use Rattle.receiver.specs.declared.task.Task.{Task}
use Rattle.receiver.specs.declared.task.Task.TheVariants.{Writing, Setting, Checking, Erasing, Protecting, Unprotecting, AwaitingReset}
use Rattle.receiver.specs.Receivers.{wire_of}
use Rattle.receiver.specs.States.{bounded, hand_in, hand_for, ticket_in, ticket_for, task_in}
use Rattle.twin_parts.specs.Hands.{Alike, data_in, task_data}
use Rattle.twin_parts.proofs.Bounded.{same_bounded}

-- the command in hand and the ticket of what is in hand, if anything is
abbrev task_hand : Option BoundedTask → List ℕ → Hand
task_hand None store = none
task_hand (Some busy) store = hand_for busy.task store

abbrev task_ticket : Option BoundedTask → Bool
task_ticket None = false
task_ticket (Some busy) = ticket_for busy.task

hand_is : (s : State) (store : List ℕ) → hand_in s store ≡ task_hand (task_in s) store
hand_is Unconnected store = refl
hand_is Between store = refl
hand_is Header store = refl
hand_is Data store = refl
hand_is Crc store = refl
hand_is (Busy busy) store = refl

ticket_is : (s : State) → ticket_in s ≡ task_ticket (task_in s)
ticket_is Unconnected = refl
ticket_is Between = refl
ticket_is Header = refl
ticket_is Data = refl
ticket_is Crc = refl
ticket_is (Busy busy) = refl

-- the task, from the command in hand and the ticket
abbrev task_from : Hand → Bool → Option Task
task_from none false = None
task_from none true = Some AwaitingReset
task_from (unprotecting k) ticket = Some (Unprotecting k)
task_from (doing (writing first bytes k)) ticket = Some (Writing first (length bytes / 4) k)
task_from (doing (setting i bytes)) ticket = Some (Setting i (length bytes / 4))
task_from (doing (checking first count value k register)) ticket = Some (Checking first count value k register)
task_from (doing (erasing first count k)) ticket = Some (Erasing first count k)
task_from (doing protecting) ticket = Some Protecting

-- the words of a Write in a store that has room for them
stored_count : (store : List ℕ) (words : ℕ) → length store ≡ 522 → 1 ≤ words → words ≤ 128 → length (stored_bytes store words) / 4 ≡ words
stored_count store words l a b =
    let n = 4 * min (max words 1) 128 in
    let e : length (stored_bytes store words) ≡ min n (length store - 8) = length-take n (drop 8 store) ∙ ap (min n) (length-drop 8 store) in
    omega (arith, e)

task_back : (task : Task) (store : List ℕ) → length store ≡ 522 → bounded task ≡ true → task_from (hand_for task store) (ticket_for task) ≡ Some task
task_back (Writing first words done) store l b =
    ap (λ (n : ℕ). Some (Writing first n done)) (stored_count store words l (grind (arith, nat_tests)) (grind (arith, nat_tests)))
task_back (Setting first words) store l b =
    ap (λ (n : ℕ). Some (Setting first n)) (stored_count store words l (grind (arith, nat_tests)) (grind (arith, nat_tests)))
task_back (Checking first count value done register) store l b = refl
task_back (Erasing first count done) store l b = refl
task_back Protecting store l b = refl
task_back (Unprotecting done) store l b = refl
task_back AwaitingReset store l b = refl

-- the task of what is in hand, if anything is
abbrev plain : Option BoundedTask → Option Task
plain None = None
plain (Some busy) = Some busy.task

plain_back : (o : Option BoundedTask) (store : List ℕ) → length store ≡ 522 → task_from (task_hand o store) (task_ticket o) ≡ plain o
plain_back None store l = refl
plain_back (Some busy) store l = task_back busy.task store l busy.fits

same_plain : (o p : Option BoundedTask) → plain o ≡ plain p → o ≡ p
same_plain None None e = refl
same_plain None (Some b) e = let z : ◌≡◌ {A = ℕ} 0 1 = cc in absurd (omega arith)
same_plain (Some a) None e = let z : ◌≡◌ {A = ℕ} 0 1 = cc in absurd (omega arith)
same_plain (Some a) (Some b) e = let t : a.task ≡ b.task = cc in ap Some (same_bounded a b t)

-- the data of a command in hand
abbrev hand_data : Hand → List ℕ
hand_data none = []
hand_data (unprotecting k) = []
hand_data (doing (writing first bytes k)) = bytes
hand_data (doing (setting i bytes)) = bytes
hand_data (doing (checking first count value k register)) = []
hand_data (doing (erasing first count k)) = []
hand_data (doing protecting) = []

data_of : (task : Task) (store : List ℕ) → task_data task store ≡ hand_data (hand_for task store)
data_of (Writing first words done) store = refl
data_of (Setting first words) store = refl
data_of (Checking first count value done register) store = refl
data_of (Erasing first count done) store = refl
data_of Protecting store = refl
data_of (Unprotecting done) store = refl
data_of AwaitingReset store = refl

data_is : (o : Option BoundedTask) (store : List ℕ) → data_in o store ≡ hand_data (task_hand o store)
data_is None store = refl
data_is (Some busy) store = data_of busy.task store

-- the same task with the same data is the same command in hand
hand_of : (task : Task) (a b : List ℕ) → task_data task a ≡ task_data task b → hand_for task a ≡ hand_for task b
hand_of (Writing first words done) a b e = ap (λ bs. doing (writing first bs done)) e
hand_of (Setting first words) a b e = ap (λ bs. doing (setting first bs)) e
hand_of (Checking first count value done register) a b e = refl
hand_of (Erasing first count done) a b e = refl
hand_of Protecting a b e = refl
hand_of (Unprotecting done) a b e = refl
hand_of AwaitingReset a b e = refl

hand_by_data : (o : Option BoundedTask) (a b : List ℕ) → data_in o a ≡ data_in o b → task_hand o a ≡ task_hand o b
hand_by_data None a b e = refl
hand_by_data (Some busy) a b e = hand_of busy.task a b e

-- ---- two receivers

-- they agree on the connection, on the open frame and on what they are busy with
pub record Agreed (a b : Receiver) : Type 0 where
  pub connected : (wire_of a).connected ≡ (wire_of b).connected
  pub frames : (wire_of a).frame ≡ (wire_of b).frame
  pub tasks : task_in a.state ≡ task_in b.state

pub alike : (a b : Receiver) → Agreed a b → data_in (task_in a.state) a.store.bytes ≡ data_in (task_in a.state) b.store.bytes → Alike a b
alike a b g d = record {
  wire = λ j. record { connected = g.connected j; frame = g.frames j };
  hand =
      hand_is a.state a.store.bytes ∙ hand_by_data (task_in a.state) a.store.bytes b.store.bytes d
      ∙ ap (λ (o : Option BoundedTask). task_hand o b.store.bytes) g.tasks ∙ sym (hand_is b.state b.store.bytes);
  ticket = ticket_is a.state ∙ ap task_ticket g.tasks ∙ sym (ticket_is b.state);
}

pub same_task : (a b : Receiver) → length a.store.bytes ≡ 522 → length b.store.bytes ≡ 522 → Alike a b → task_in a.state ≡ task_in b.state
same_task a b l m x =
    same_plain (task_in a.state) (task_in b.state)
    (sym (plain_back (task_in a.state) a.store.bytes l)
    ∙ ap₂ task_from (sym (hand_is a.state a.store.bytes) ∙ x.hand ∙ hand_is b.state b.store.bytes) (sym (ticket_is a.state) ∙ x.ticket ∙ ticket_is b.state)
    ∙ plain_back (task_in b.state) b.store.bytes m)

pub same_data : (a b : Receiver) → Agreed a b → Alike a b
    → data_in (task_in a.state) a.store.bytes ≡ data_in (task_in a.state) b.store.bytes
same_data a b g x =
    data_is (task_in a.state) a.store.bytes
    ∙ ap hand_data (sym (hand_is a.state a.store.bytes) ∙ x.hand ∙ hand_is b.state b.store.bytes ∙ ap (λ (o : Option BoundedTask). task_hand o b.store.bytes) (sym g.tasks))
    ∙ sym (data_is (task_in a.state) b.store.bytes)
