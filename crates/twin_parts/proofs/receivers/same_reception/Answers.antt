use Rattle.std.proofs.Common.{◌≡◌, ℕ, length, sym, ap, ◌∙◌, arith, rules}
use Rattle.twin_parts.specs.Hands.{data_in}
use Rattle.twin_parts.proofs.Bounded.{bounded_decides, equal_decides}
use Rattle.twin_parts.proofs.Hands.{Agreed, same_task, same_data, alike}
use Rattle.twin_parts.proofs.receivers.same_reception.Goals as goal
use Rattle.twin_parts.proofs.receivers.same_reception.Goals.{then-connected, else-connected, then-eq, else-eq}

pub returns-else-eq-2 : goal.returns-else-eq-2
returns-else-eq-2 c =
    let a = c.args.a.now in
    let b = c.args.b.now in
    let l : length a.store.bytes ≡ 522 = sym (ap length c.store-ours.ensures.is_the_store) ∙ c.store-ours.ensures.has_room_for_the_longest_frame in
    let m : length b.store.bytes ≡ 522 = sym (ap length c.store-theirs.ensures.is_the_store) ∙ c.store-theirs.ensures.has_room_for_the_longest_frame in
    record {
      tells_whether_they_agree = (
        λ e. let z : ◌≡◌ {A = ℕ} 0 1 = cc in absurd (omega arith),
        λ x. elim c.if-eq.branch [
          | then-eq w ↦
              w.value-is ∙ (equal_decides w.eq-then-eq.result w.task.result w.task-then-eq.result w.eq-then-eq.ensures bounded_decides).1
              (w.task.ensures.is_what_it_is_busy_with ∙ same_task a b l m x ∙ sym w.task-then-eq.ensures.is_what_it_is_busy_with)
          | else-eq w ↦ elim c.if-connected.branch [ then-connected v ↦ search rules | else-connected v ↦ search rules ]
        ],
      );
    }

pub returns-then-eq-2 : goal.returns-then-eq-2
returns-then-eq-2 c =
    let a = c.args.a.now in
    let b = c.args.b.now in
    let ours = c.store-ours.ensures.is_the_store in
    let theirs = c.store-theirs.ensures.is_the_store in
    let agreed : Agreed a b = elim c.if-eq.branch [
      | then-eq w ↦ elim c.if-connected.branch [
        | then-connected v ↦ record {
          connected = search rules;
          frames = search rules;
          tasks =
              sym w.task.ensures.is_what_it_is_busy_with
              ∙ (equal_decides w.eq-then-eq.result w.task.result w.task-then-eq.result w.eq-then-eq.ensures bounded_decides).0 (sym w.value-is ∙ c.if-eq-2.true)
              ∙ w.task-then-eq.ensures.is_what_it_is_busy_with;
        }
        | else-connected v ↦ let z : ◌≡◌ {A = ℕ} 0 1 = cc in absurd (omega arith)
      ]
      | else-eq w ↦ let z : ◌≡◌ {A = ℕ} 0 1 = cc in absurd (omega arith)
    ] in
    let task = c.task-then-eq-2.ensures.is_what_it_is_busy_with in
    record {
      tells_whether_they_agree = (
        λ e. alike a b agreed
            ((λ j. data_in (sym task j) (sym ours j)) ∙ c.same_data.ensures.0 e ∙ (λ j. data_in (task j) (theirs j))),
        λ x. c.same_data.ensures.1 ((λ j. data_in (task j) (ours j)) ∙ same_data a b agreed x ∙ (λ j. data_in (sym task j) (sym theirs j))),
      );
    }
