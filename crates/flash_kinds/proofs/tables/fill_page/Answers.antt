use Rattle.std.proofs.Common.{◌*◌, arith}
use Rattle.flash.proofs.Overwrites.{put_filled}
use Rattle.flash_kinds.proofs.tables.fill_page.Goals as goal

pub returns : goal.returns
returns g c =
    put_filled (128 * c.args.page) _ 128 c.args.cells.now c.fill.new.self c.args.blank (omega arith)
    (c.fill.ensures.after c.requires.as_it_is) c.requires.within
