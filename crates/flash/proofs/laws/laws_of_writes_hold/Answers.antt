use Rattle.flash.proofs.Lawful.{cuts_keep_limits, cuts_alter_only_their_write, writes_are_read_back}
use Rattle.flash.proofs.laws.laws_of_writes_hold.Goals as goal

pub returns-clause-places : goal.returns-clause-places
returns-clause-places c = cuts_alter_only_their_write

pub returns-clause-limits : goal.returns-clause-limits
returns-clause-limits c = cuts_keep_limits

pub returns-clause-reads : goal.returns-clause-reads
returns-clause-reads c = writes_are_read_back
