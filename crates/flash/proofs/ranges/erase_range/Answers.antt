use Rattle.std.proofs.Common.{◌≡◌, suc, ◌+◌, ◌-◌, ◌<◌, ap, None, ◌∙◌, arith, rules}
use Rattle.std.proofs.lemmas.Bool.Decides.{nat_tests}
use Rattle.flash.specs.declared.ranges.Erased.{Erased}
use Rattle.flash.specs.Meaning.{Meaning}
use Rattle.flash.specs.Effects.{erase_write}
use Rattle.flash.specs.Cuts.{new}
use Rattle.flash.proofs.Lawful.{cuts_alter_only_their_write}
use Rattle.flash.proofs.RangeSteps.{refused_answer, refused_leaves, served_answer, served_leaves, blank_range}
use Rattle.flash.proofs.ranges.erase_range.Goals as goal

pub returns-in-Err-clause-answer : goal.returns-in-Err-clause-answer
returns-in-Err-clause-answer g c =
    let m = g.F.Flash.meaning c.loop-done.flash in
    let some : 0 < c.args.count - c.loop-done.done = omega arith in
    refused_answer m _ _ _ _ some c.in-Err.ensures.answer ∙ c.loop-done.invariant.1

pub returns-in-Err-clause-leaves : goal.returns-in-Err-clause-leaves
returns-in-Err-clause-leaves g c =
    let m = g.F.Flash.meaning c.loop-done.flash in
    let some : 0 < c.args.count - c.loop-done.done = omega arith in
    c.in-Err.ensures.leaves ∙ refused_leaves m _ _ _ some c.in-Err.ensures.answer ∙ c.loop-done.invariant.2

pub loop-done-preserved : goal.loop-done-preserved
loop-done-preserved g c =
    let m = g.F.Flash.meaning c.loop-done.flash in
    let p = c.args.first + c.loop-done.done in
    let k = c.loop-done.done in
    let inv = c.loop-done.invariant in
    let next : c.args.first + (k + 1) ≡ p + 1 = omega arith in
    let less : suc (c.args.count - (k + 1)) ≡ c.args.count - k = omega arith in
    let served = c.in_default.ensures.answer in
    let left = c.in_default.ensures.leaves in
    let within : p < m.pages = grind (arith, nat_tests, served) in
    let same = ap (λ (n : Meaning). n.pages) left ∙ (cuts_alter_only_their_write new (erase_write m p) m).pages in (
      λ _. omega (arith, same),
      served_answer m p _ left _ _ _ next less served k ∙ inv.1,
      served_leaves m p _ left _ _ _ next less served ∙ inv.2,
      c.in_default.ensures.loans ∙ inv.3,
    )

pub returns-clause-blank : goal.returns-clause-blank
returns-clause-blank g c =
    let before = g.F.Flash.meaning c.args.flash.now in
    let all : Erased = record { done = c.args.count; refused = None } in
    blank_range before (g.F.Flash.meaning c.loop-done.flash) all c.args.first c.args.count (g.met.F.Flash.sound c.args.flash.now) (search rules) (search rules)
