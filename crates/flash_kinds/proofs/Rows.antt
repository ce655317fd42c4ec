-- The worked power cuts hold, by computation.
use Rattle.std.proofs.Common.{refl}
use Rattle.flash.specs.Meaning.{blank_page, page_written}
use Rattle.flash_kinds.specs.CutRows.{CutRowsHold}

pub cut_rows_hold : CutRowsHold
unfolding blank_page page_written
cut_rows_hold = refl
