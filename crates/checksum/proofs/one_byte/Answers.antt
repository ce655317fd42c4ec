use Rattle.std.proofs.Common.{arith}
use Rattle.checksum.proofs.Laws.{one_byte}
use Rattle.checksum.proofs.one_byte.Goals as goal

pub returns : goal.returns
returns c = let e = one_byte c.args.x (omega arith) in cc
