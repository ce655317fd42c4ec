-- Bounded tasks made of tasks.
use Rattle.std.specs.Prelude.{◌≡◌, true, Result, IfOk, IsOk, ◌↔◌}
use Rattle.receiver.specs.declared.bounded_task.BoundedTask.{BoundedTask}
use Rattle.receiver.specs.declared.bounded_task.UnboundedTask.{UnboundedTask}
use Rattle.receiver.specs.declared.task.Task.{Task}
use Rattle.receiver.specs.Tasks.{bounded}

-- the same task is given back where it is bounded, and no other task is
pub record BoundsTask (task : Task) (result : Result BoundedTask UnboundedTask) : Type 0 where
  pub same : IfOk result (λ b. b.task ≡ task)
  pub told : IsOk result ↔ (bounded task ≡ true)
