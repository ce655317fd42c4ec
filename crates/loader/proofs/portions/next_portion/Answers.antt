use Rattle.std.proofs.Common.{rules}
use Rattle.loader.proofs.OptionWords.{set_within}
use Rattle.loader.proofs.portions.next_portion.Goals as goal

pub returns-in-Setting : goal.returns-in-Setting
returns-in-Setting g c =
    let e = c.set_next.ensures.ends c.args.store.now in
    let within = set_within c.in-Setting.first c.in-Setting.words c.args.store.now (g.F.Flash.meaning c.args.flash.now).options c.args.task.task c.in-Setting.is c.args.task.fits (g.met.F.Flash.sound c.args.flash.now).four in
    search rules

pub returns-in-Erasing-clause-ends : goal.returns-in-Erasing-clause-ends
returns-in-Erasing-clause-ends g c = let e = c.erase_next.ensures.ends c.args.store.now in search rules

pub returns-in-Protecting-clause-ends : goal.returns-in-Protecting-clause-ends
returns-in-Protecting-clause-ends g c = let e = c.replace_next.ensures.ends c.args.store.now in search rules

pub returns-in-Unprotecting-clause-ends : goal.returns-in-Unprotecting-clause-ends
returns-in-Unprotecting-clause-ends g c = let e = c.unprotect_next.ensures.ends c.args.store.now in search rules
