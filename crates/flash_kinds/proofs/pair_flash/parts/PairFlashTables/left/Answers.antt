use Rattle.std.proofs.Common.{◌<◌, min, length, sym, ◌∙◌, arith}
use Rattle.flash_kinds.proofs.Boths.{least_within}
use Rattle.flash_kinds.proofs.pair_flash.parts.PairFlashTables.left.Goals as goal

pub returns : goal.returns
returns c =
    let ls = c.args.self.now.low_records.now in
    let hs = c.args.self.now.high_records.now in
    let p = c.args.page in
    let has_low : p < length ls = omega arith in
    let has_high : p < length hs = omega arith in
    c.min.ensures ∙ (λ j. min (c.left-low.ensures j) (c.left-high.ensures j)) ∙ sym (least_within _ ls hs p c.requires has_low has_high)
