use Rattle.std.proofs.Common.{arith}
use Rattle.flash.proofs.Overwrites.{put_within}
use Rattle.memory.proofs.portions.overwrite.Goals as goal

pub returns : goal.returns
returns c =
    let four = c.told-options in
    put_within c.min-start.result c.args.first _ c.min-count.result c.args.words.now c.copy_from_slice.new.self c.args.options.now
    (omega arith) (omega arith) (omega arith) c.copy_from_slice.ensures.after
