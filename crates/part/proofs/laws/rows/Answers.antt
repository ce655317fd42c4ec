use Rattle.std.proofs.Common.{refl}
use Rattle.checksum.specs.Crc.{step as shift, steps, feed, feeds, crc}
use Rattle.flash.specs.Meaning.{blank_page, page_written}
use Rattle.part.specs.Events.{step, says}
use Rattle.part.specs.Receiving.{served, framing}
use Rattle.part.specs.Rows.{PrintedRowsHold, WorkedRunsHold, TwinsExist}
use Rattle.part.proofs.laws.rows.Goals as goal

printed_rows_hold : PrintedRowsHold
unfolding shift steps feed feeds crc blank_page page_written step says served framing
printed_rows_hold = refl

worked_runs_hold : WorkedRunsHold
unfolding shift steps feed feeds crc blank_page page_written step says served framing
worked_runs_hold = refl

twins_exist : TwinsExist
twins_exist = record { agree = refl; locked = refl; first = refl; second = refl }

pub returns : goal.returns
returns c = record { printed_rows_hold = printed_rows_hold; worked_runs_hold = worked_runs_hold; twins_exist = twins_exist }
