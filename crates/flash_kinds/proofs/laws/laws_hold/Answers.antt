use Rattle.flash_kinds.proofs.Rows.{cut_rows_hold}
use Rattle.flash_kinds.proofs.laws.laws_hold.Goals as goal

pub returns-clause-rows : goal.returns-clause-rows
returns-clause-rows c = cut_rows_hold
