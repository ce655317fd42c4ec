use Rattle.std.proofs.Common.{arith}
use Rattle.checksum.proofs.Laws.{two_bytes}
use Rattle.checksum.proofs.two_bytes.Goals as goal

pub returns : goal.returns
returns c = two_bytes c.args.x (omega arith)
