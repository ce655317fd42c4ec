-- Bounded tasks compared, and what is in hand compared.
use Rattle.std.proofs.Common.{◌≡◌, ℕ, Bool, true, Decides, Some, None, Option, sym, refl, ◌∙◌, ap, subst, arith, rules}
use Rattle.std.specs.Option.{option_eq}
use Rattle.std.proofs.Props.{props}
use Rattle.receiver.specs.declared.bounded_task.BoundedTask.{BoundedTask}
use Rattle.receiver.specs.declared.task.Task.{Task}
use Rattle.receiver.specs.contracts.task.TaskPartialEq.TheImpl as derived
use Rattle.receiver.specs.Tasks.{bounded}

-- the same task is the same bounded task
pub same_bounded : (a b : BoundedTask) → a.task ≡ b.task → a ≡ b
same_bounded a b e =
    let one : IsProp (bounded a.task ≡ true) = hlevel props in
    subst (λ (t : Task). (fits : bounded t ≡ true) → ◌≡◌ {A = BoundedTask} a (record { task = t; fits = fits })) e
    (λ fits. ap (λ (f : bounded a.task ≡ true). record { task = a.task; fits = f }) (one a.fits fits)) b.fits

-- a test that decides whether two values are equal decides it where there may be none
option_decides : {X : Type 0} (eq : X → X → Bool) → ((a b : X) → Decides (eq a b) (a ≡ b)) → (o p : Option X) → Decides (option_eq eq o p) (o ≡ p)
option_decides eq d None None = (λ e. refl, λ e. refl)
option_decides eq d None (Some b) = (λ e. let z : ◌≡◌ {A = ℕ} 0 1 = cc in absurd (omega arith), λ e. let z : ◌≡◌ {A = ℕ} 0 1 = cc in absurd (omega arith))
option_decides eq d (Some a) None = (λ e. let z : ◌≡◌ {A = ℕ} 0 1 = cc in absurd (omega arith), λ e. let z : ◌≡◌ {A = ℕ} 0 1 = cc in absurd (omega arith))
option_decides eq d (Some a) (Some b) = (λ e. ap Some ((d a b).0 e), λ e. let h : a ≡ b = cc in (d a b).1 h)

pub equal_decides : {X : Type 0} {eq : X → X → Bool} (r : Bool) (o p : Option X) → r ≡ option_eq eq o p → ((a b : X) → Decides (eq a b) (a ≡ b)) → Decides r (o ≡ p)
equal_decides {eq = eq} r o p h d = let both = option_decides eq d o p in (λ e. both.0 (sym h ∙ e), λ e. h ∙ both.1 e)

-- the derived equality of tasks decides, and with it that of bounded tasks
task_decides : (t u : Task) → Decides (derived.ghosts.eq t u) (t ≡ u)
task_decides t u = search rules

pub bounded_decides : (p q : BoundedTask) → Decides (derived.ghosts.eq p.task q.task) (p ≡ q)
bounded_decides p q = let d = task_decides p.task q.task in (λ e. same_bounded p q (d.0 e), λ e. d.1 (ap (λ (b : BoundedTask). b.task) e))
