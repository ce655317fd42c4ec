use Rattle.loader.proofs.Refused.{refuses}
use Rattle.loader.proofs.loader.Loader.go_on.Goals as goal

pub returns-in-Err-clause-leaves : goal.returns-in-Err-clause-leaves
returns-in-Err-clause-leaves g c =
    let portion = c.in-Err.ensures in
    (refuses g.F.Flash.meaning c.args.self.now c.args.task c.store.result.now c.next_portion.new.flash c.release-in-Err.new.self
    c.in-Err.fault c.requires.busy c.store.ensures.is_the_store c.requires.no_ticket c.release-in-Err.ensures.is_between_frames portion.ends portion.leaves).1
