-- A work call that answers with no ticket takes none.
use Rattle.std.proofs.Common.{◌≡◌, ℕ, Bool, true, false, cond, ltb, None, refl, arith}
use Rattle.part.specs.Events.{after_portion, least_buffer, next_portion, small_buffer, ticket_after, work_leaves, work_said, work_says}
use Rattle.part.specs.Parts.{Part}
use Rattle.part.specs.Working.{Outcome, idle, going, done, done_ticket, differs, refused, Portion}
use Rattle.loader.specs.Answers.{ticket_of}
use Rattle.loader.specs.Loaders.{worked_as}

without : (o : Outcome) (p : Part) → ticket_of (worked_as (work_said o)) ≡ None → ticket_after o p.ticket ≡ p.ticket
without idle p e = refl
without going p e = refl
without done p e = refl
without done_ticket p e = let z : ◌≡◌ {A = ℕ} 0 1 = cc in absurd (omega arith)
without differs p e = refl
without (refused f) p e = refl

keeps_without : (c : Bool) (p : Part) (w : Portion) → ticket_of (worked_as (cond c small_buffer (work_said w.outcome))) ≡ None
    → (cond c p (after_portion p w)).ticket ≡ p.ticket
keeps_without true p w e = refl
keeps_without false p w e = without w.outcome p e

pub work_keeps_the_ticket : (p : Part) (room : ℕ) → ticket_of (worked_as (work_says p room)) ≡ None → (work_leaves p room).ticket ≡ p.ticket
work_keeps_the_ticket p room e = keeps_without (ltb room least_buffer) p (next_portion p) e
