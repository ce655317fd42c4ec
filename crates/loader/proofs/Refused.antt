-- A portion that the flash refused.
use Rattle.std.proofs.Common.{◌≡◌, ℕ, false, List, Some, Err, sym, refl, ap, ◌∙◌, arith}
use Rattle.std.proofs.lemmas.Bool.Decides.{nat_tests}
use Rattle.flash.specs.declared.fault.FlashFault.{FlashFault}
use Rattle.flash.specs.Meaning.{Meaning}
use Rattle.memory.specs.Reports.{in_memory}
use Rattle.part.specs.declared.report.CommandFault.{CommandFault}
use Rattle.part.specs.Parts.{Hand, none, unprotecting, doing, writing, setting, checking, erasing, protecting}
use Rattle.part.specs.Working.{Outcome, idle, going, done, done_ticket, differs, refused, portion, hand_byte, reported}
use Rattle.part.specs.Events.{bytes, work_said, next_portion, after_portion, ticket_after}
use Rattle.part.specs.Receiving.{code_answer}
use Rattle.flash.specs.Effects.{written}
use Rattle.commands.specs.declared.codes.Code.TheVariants.{FlashRefused}
use Rattle.receiver.specs.declared.bounded_task.BoundedTask.{BoundedTask}
use Rattle.receiver.specs.declared.receiver.Receiver.{Receiver}
use Rattle.receiver.specs.declared.state.State.{State}
use Rattle.receiver.specs.declared.state.State.TheVariants.{Between, Busy}
use Rattle.receiver.specs.States.{wire_in, hand_in, hand_for, ticket_in, ticket_for}
use Rattle.receiver.specs.Stores.{held}
use Rattle.loader.specs.declared.loader.Loader.{Loader}
use Rattle.loader.specs.Loaders.{part_of}
use Rattle.loader.specs.Faults.{in_command}
use Rattle.loader.specs.Progresses.{coded, left_as, left_by}

-- it ends the command
pub refused_ends : (h : Hand) (m : Meaning) (f : FlashFault) → (portion h m).outcome ≡ refused f → (portion h m).hand ≡ none
refused_ends none m f e = refl
refused_ends (unprotecting k) m f e = grind (arith, nat_tests)
refused_ends (doing (writing first data_bytes k)) m f e = grind (arith, nat_tests)
refused_ends (doing (setting i data_bytes)) m f e = grind (arith, nat_tests)
refused_ends (doing (checking first count value k register)) m f e = grind (arith, nat_tests)
refused_ends (doing (erasing first count k)) m f e = grind (arith, nat_tests)
refused_ends (doing protecting) m f e = grind (arith, nat_tests)

-- and its report is the flash's refusal with its address and the command's code
pub record Refusal (code : ℕ) (o : Outcome) (fault : CommandFault) : Type 0 where
  pub cause : FlashFault
  pub outcome : o ≡ refused cause
  pub report : fault ≡ in_command code (in_memory cause)

pub refusal_of : (code : ℕ) (o : Outcome) (h : Hand) (fault : CommandFault) → Err fault ≡ coded code (left_as o h) → Refusal code o fault
refusal_of code idle h fault e = let z : ◌≡◌ {A = ℕ} 0 1 = cc in absurd (omega arith)
refusal_of code going h fault e = let z : ◌≡◌ {A = ℕ} 0 1 = cc in absurd (omega arith)
refusal_of code done h fault e = let z : ◌≡◌ {A = ℕ} 0 1 = cc in absurd (omega arith)
refusal_of code done_ticket h fault e = let z : ◌≡◌ {A = ℕ} 0 1 = cc in absurd (omega arith)
refusal_of code differs h fault e = let z : ◌≡◌ {A = ℕ} 0 1 = cc in absurd (omega arith)
refusal_of code (refused f) h fault e = record { cause = f; outcome = refl; report = cc }

-- a loader that reports the refusal and is between frames again
module _ {F : Type 0} (meaning : F → Meaning) where
  pub refuses : (l : Loader F) (task : BoundedTask) (store : List ℕ) (flash : F) (r : Receiver) (fault : CommandFault)
      → l.receiver.state ≡ Busy task → store ≡ l.receiver.store.bytes → ticket_for task.task ≡ false → r.state ≡ Between
      → Err fault ≡ coded (hand_byte (hand_for task.task store)) (left_by (portion (hand_for task.task store) (meaning l.flash)))
      → meaning flash ≡ written (portion (hand_for task.task store) (meaning l.flash)).writes (meaning l.flash)
      → (bytes (code_answer FlashRefused) ≡ work_said (next_portion (part_of meaning l)).outcome)
      × (part_of meaning (record { flash = flash; identity = l.identity; level = l.level; last = Some fault; receiver = r })
      ≡ after_portion (part_of meaning l) (next_portion (part_of meaning l)))
  refuses l task store flash r fault busy same free between e w =
      let p = part_of meaning l in
      let m = meaning l.flash in
      let h : hand_for task.task store ≡ p.hand = ap (hand_for task.task) same ∙ sym (ap (λ (x : State). hand_in x l.receiver.store.bytes) busy) in
      let x = refusal_of (hand_byte p.hand) (portion p.hand m).outcome (portion p.hand m).hand fault
      (e ∙ ap (λ (y : Hand). coded (hand_byte y) (left_by (portion y m))) h) in
      let ends = refused_ends p.hand m x.cause x.outcome in
      let wire : wire_in r.state (held r.store) ≡ wire_in l.receiver.state (held l.receiver.store) =
      ap (λ (y : State). wire_in y (held r.store)) between ∙ sym (ap (λ (y : State). wire_in y (held l.receiver.store)) busy) in
      let hand : hand_in r.state r.store.bytes ≡ (portion p.hand m).hand = ap (λ (y : State). hand_in y r.store.bytes) between ∙ sym ends in
      let ticket : ticket_in r.state ≡ ticket_after (portion p.hand m).outcome p.ticket =
      ap ticket_in between ∙ sym free ∙ sym (ap ticket_in busy) ∙ sym (ap (λ (o : Outcome). ticket_after o p.ticket) x.outcome) in
      let last : Some fault ≡ reported p.hand (portion p.hand m).outcome p.last =
      ap Some x.report ∙ sym (ap (λ (o : Outcome). reported p.hand o p.last) x.outcome) in
      let left : meaning flash ≡ written (portion p.hand m).writes m = w ∙ ap (λ (y : Hand). written (portion y m).writes m) h in (
        sym (ap work_said x.outcome),
        λ j. record {
          identity = l.identity;
          wire = wire j;
          hand = hand j;
          ticket = ticket j;
          level = l.level;
          last = last j;
          flash = left j;
        },
      )
