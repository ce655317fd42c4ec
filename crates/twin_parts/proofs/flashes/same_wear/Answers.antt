use Rattle.std.proofs.Common.{◌≡◌, ◌≢◌, get_or, sym, refl, ◌∙◌, arith, rules}
use Rattle.std.proofs.lemmas.Bool.Decides.{nat_tests}
use Rattle.std.proofs.lemmas.Iterator.{cases_from_all, YieldsList-from_range}
use Rattle.twin_parts.proofs.Wear.{tested_decides}
use Rattle.twin_parts.proofs.flashes.same_wear.Goals as goal

pub returns : goal.returns
returns g c =
    let ours = (g.F.Flash.meaning c.args.a.now).erases_left in
    let theirs = (g.G.Flash.meaning c.args.b.now).erases_left in
    tested_decides ours theirs c.args.pages c.all.result ((g.met.F.Flash.sound c.args.a.now).counted ∙ sym c.requires.0) ((g.met.G.Flash.sound c.args.b.now).counted ∙ sym c.requires.1)
    (cases_from_all _ _ _ (λ i. get_or ours i 0 ≡ get_or theirs i 0) (λ i. get_or ours i 0 ≢ get_or theirs i 0) c.all.ensures.ran
    (YieldsList-from_range 0 c.args.pages c.args.pages refl (omega arith)) (λ x q e. search (rules, nat_tests)) (λ x q e. search (rules, nat_tests)))
