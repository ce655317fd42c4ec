use Rattle.std.proofs.Common.{arith}
use Rattle.std.proofs.lemmas.List.{take_more_set}
use Rattle.receiver.proofs.store.FrameStore.begin.Goals as goal

pub returns : goal.returns
returns c = record { holds_that_byte_alone = take_more_set c.args.self.now.bytes 0 c.args.byte (omega arith) }
