-- A loader that holds a whole frame, and a loader that has done what it asks for.
use Rattle.std.proofs.Common.{◌≡◌, ℕ, ◌≤◌, Bool, true, false, cond, ◌||◌, ltb, List, length, take, sym, refl, ap, ◌∙◌, arith}
use Rattle.std.proofs.lemmas.Bool.Decides.{nat_tests}
use Rattle.flash.specs.Meaning.{Meaning}
use Rattle.frame.specs.Places.{judged}
use Rattle.part.specs.Events.{after_byte, byte_said, byte_says, byte_leaves, least_buffer, small_buffer, silent, hears, busy, in_hand}
use Rattle.part.specs.declared.identity.Identity.{Identity}
use Rattle.part.specs.Receiving.{Heard, Reply, between, heard, answered, taking}
use Rattle.part.specs.Parts.{Part, none}
use Rattle.receiver.specs.declared.bounded_task.BoundedTask.{BoundedTask}
use Rattle.receiver.specs.declared.receiver.Receiver.{Receiver}
use Rattle.receiver.specs.declared.state.Order.{Order}
use Rattle.receiver.specs.declared.state.State.{State}
use Rattle.receiver.specs.declared.state.State.TheVariants.{Unconnected, Between, Header, Data, Crc, Busy}
use Rattle.receiver.specs.declared.task.Task.{Task}
use Rattle.receiver.specs.declared.task.Task.TheVariants.{Writing, Setting, Checking, Erasing, Protecting, Unprotecting, AwaitingReset}
use Rattle.receiver.specs.Receivers.{ordered_as, wire_of, busy_of}
use Rattle.receiver.specs.States.{wire_in, hand_in, hand_for, ticket_in, ticket_for, busy_in}
use Rattle.receiver.specs.Stores.{held}
use Rattle.loader.specs.declared.loader.Loader.{Loader}
use Rattle.loader.specs.declared.answer_buffer.AnswerBuffer.{AnswerBuffer}
use Rattle.loader.specs.declared.answers.Received.{Received}
use Rattle.loader.specs.AnswerBuffers.{Puts}
use Rattle.loader.specs.Loaders.{part_of, order_of, received_as, said_bytes}

-- what was heard of a frame has been done: the answer, the part as it is left, the buffer
pub record Obeyed (p left : Part) (answer : Received) (old new : AnswerBuffer) (h : Heard) : Type 0 where
  pub answers : answer ≡ received_as (byte_said h.reply)
  pub leaves : left ≡ after_byte p h
  pub puts : Puts (said_bytes (byte_said h.reply)) old new

module _ {F : Type 0} (meaning : F → Meaning) where
  -- the order that a frame is, where the receiver holds the frame
  pub ordered : (l : Loader F) (o : Order) (f : List ℕ) (pages : ℕ) → f ≡ held l.receiver.store → take (length f) l.receiver.store.bytes ≡ f
      → pages ≡ (meaning l.flash).pages
      → ((i : Identity) (m : Meaning) (s : List ℕ) → m.pages ≡ pages → take (length f) s ≡ f → answered i l.level m (judged l.level pages f) ≡ ordered_as i l.level m s o)
      → ordered_as l.identity l.level (meaning l.flash) l.receiver.store.bytes o ≡ order_of meaning l
  unfolding order_of
  ordered l o f pages e t p h =
      sym (h l.identity (meaning l.flash) l.receiver.store.bytes (sym p) t)
      ∙ ap (λ (n : ℕ). answered l.identity l.level (meaning l.flash) (judged l.level n f)) p
      ∙ ap (λ (x : List ℕ). answered l.identity l.level (meaning l.flash) (judged l.level (meaning l.flash).pages x)) e

  -- a loader between frames that takes nothing up is as it was
  pub rests : (l : Loader F) (reply : Reply) → l.receiver.state ≡ Between
      → part_of meaning l ≡ after_byte (part_of meaning l) (record { wire = between; takes = none; reply = reply })
  rests l reply e = λ j. record {
    identity = l.identity;
    wire = wire_in (e j) (held l.receiver.store);
    hand = hand_in (e j) l.receiver.store.bytes;
    ticket = ticket_in l.receiver.state;
    level = l.level;
    last = l.last;
    flash = meaning l.flash;
  }

  -- a loader between frames that takes a command up is busy with it
  pub takes_up : (l : Loader F) (r : Receiver) (task : BoundedTask) → l.receiver.state ≡ Between → r.state ≡ Busy task → r.store ≡ l.receiver.store
      → ticket_for task.task ≡ false
      → part_of meaning (record { flash = l.flash; identity = l.identity; level = l.level; last = l.last; receiver = r })
      ≡ after_byte (part_of meaning l) (taking (hand_for task.task l.receiver.store.bytes))
  takes_up l r task e b s t =
      let ticket : ticket_in r.state ≡ ticket_in l.receiver.state = ap ticket_in b ∙ t ∙ sym (ap ticket_in e) in
      λ j. record {
        identity = l.identity;
        wire = wire_in (b j) (held (s j));
        hand = hand_in (b j) (s j).bytes;
        ticket = ticket j;
        level = l.level;
        last = l.last;
        flash = meaning l.flash;
      }

-- ---- a loader that is not busy

-- a task is a command in hand, or the ticket is out
busy_with : (task : Task) (store : List ℕ) → (ticket_for task || in_hand (hand_for task store)) ≡ true
busy_with (Writing first words done) store = refl
busy_with (Setting first words) store = refl
busy_with (Checking first count value done register) store = refl
busy_with (Erasing first count done) store = refl
busy_with Protecting store = refl
busy_with (Unprotecting done) store = refl
busy_with AwaitingReset store = refl

-- a part is busy where its receiver is
pub busy_same : (s : State) (store : List ℕ) → (ticket_in s || in_hand (hand_in s store)) ≡ busy_in s
busy_same Unconnected store = refl
busy_same Between store = refl
busy_same Header store = refl
busy_same Data store = refl
busy_same Crc store = refl
busy_same (Busy busy) store = busy_with busy.task store

ticket_in_hand : (t h : Bool) → (t || h) ≡ false → t ≡ false
ticket_in_hand true h e = let z : ◌≡◌ {A = ℕ} 0 1 = cc in absurd (omega arith)
ticket_in_hand false h e = refl

-- no ticket is out of a receiver that is not busy
ticket_free : (s : State) (store : List ℕ) → busy_in s ≡ false → ticket_in s ≡ false
ticket_free s store e = ticket_in_hand (ticket_in s) (in_hand (hand_in s store)) (busy_same s store ∙ e)

module _ {F : Type 0} (meaning : F → Meaning) where
  -- a byte that makes the frame whole, in the words of the part
  pub hears_whole : (l : Loader F) (r : Receiver) (b room : ℕ) → 518 ≤ room → busy_of l.receiver ≡ false → busy_of r ≡ false
      → heard l.identity l.level (meaning l.flash) (wire_of l.receiver) b
      ≡ answered l.identity l.level (meaning l.flash) (judged l.level (meaning l.flash).pages (held r.store))
      → (byte_said (order_of meaning (record { flash = l.flash; identity = l.identity; level = l.level; last = l.last; receiver = r })).reply ≡ byte_says (part_of meaning l) b room)
      × (after_byte (part_of meaning (record { flash = l.flash; identity = l.identity; level = l.level; last = l.last; receiver = r }))
      (order_of meaning (record { flash = l.flash; identity = l.identity; level = l.level; last = l.last; receiver = r })) ≡ byte_leaves (part_of meaning l) b room)
  unfolding order_of
  hears_whole l r b room large free after e =
      let p = part_of meaning l in
      let small : ltb room least_buffer ≡ false = grind (arith, nat_tests) in
      let idle : busy p ≡ false = busy_same l.receiver.state l.receiver.store.bytes ∙ free in
      let said : byte_says p b room ≡ byte_said (hears p b).reply =
      ap (λ (x : Bool). cond x small_buffer (cond (busy p) silent (byte_said (hears p b).reply))) small
      ∙ ap (λ (x : Bool). cond x silent (byte_said (hears p b).reply)) idle in
      let leaves : byte_leaves p b room ≡ after_byte p (hears p b) =
      ap (λ (x : Bool). cond x p (cond (busy p) p (after_byte p (hears p b)))) small
      ∙ ap (λ (x : Bool). cond x p (after_byte p (hears p b))) idle in
      let ticket : ticket_in r.state ≡ ticket_in l.receiver.state =
      ticket_free r.state r.store.bytes after ∙ sym (ticket_free l.receiver.state l.receiver.store.bytes free) in
      let x = sym e in (
        ap (λ (h : Heard). byte_said h.reply) x ∙ sym said,
        (λ j. record {
          identity = l.identity;
          wire = (x j).wire;
          hand = (x j).takes;
          ticket = ticket j;
          level = l.level;
          last = l.last;
          flash = meaning l.flash;
        }) ∙ sym leaves,
      )
