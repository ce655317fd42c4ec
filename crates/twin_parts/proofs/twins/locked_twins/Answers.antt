use Rattle.std.proofs.Common.{rules}
use Rattle.loader.specs.Loaders.{part_of}
use Rattle.twin_parts.specs.Twins.{LockedTwins}
use Rattle.twin_parts.proofs.Alike.{alike_for_good, twins_by_fields}
use Rattle.twin_parts.proofs.twins.locked_twins.Goals as goal

pub returns-then-eq-4-clause-locked_twins_answer_alike_for_good : goal.returns-then-eq-4-clause-locked_twins_answer_alike_for_good
returns-then-eq-4-clause-locked_twins_answer_alike_for_good g c =
    let p = part_of g.F.Flash.meaning c.args.a.now in
    let q = part_of g.G.Flash.meaning c.args.b.now in
    λ e.
    let twins : LockedTwins p q =
    twins_by_fields p q (search rules) (search rules) (search rules) (search rules) (search rules) (search rules) (search rules) (search rules) in
    alike_for_good p q twins
