use Rattle.std.proofs.Common.{◌+◌, ◌*◌, ◌^◌, ◌<◌, length, sym, ◌∙◌, arith}
use Rattle.std.proofs.lemmas.List.{get_or_read}
use Rattle.flash.specs.Lists.{both}
use Rattle.flash_kinds.specs.Pair.{joined_halves}
use Rattle.flash_kinds.proofs.Boths.{get_or_both}
use Rattle.flash_kinds.proofs.Changes.{read_as_word}
use Rattle.flash_kinds.proofs.pair_flash.parts.PairFlashTables.read.Goals as goal

pub returns : goal.returns
returns c =
    let ls = c.args.self.now.low.now in
    let hs = c.args.self.now.high.now in
    let i = c.args.i in
    let has_low : i < length ls = omega arith in
    let has_high : i < length hs = omega arith in
    let low = get_or_read ls i _ has_low c.at-low.ensures 0 in
    let high = get_or_read hs i _ has_high c.at-high.ensures 0 in
    let fits : c.at-low.result + 65536 * c.at-high.result < 2 ^ 32 = omega arith in
    let read = (λ j. joined_halves (low j) (high j)) ∙ sym (get_or_both joined_halves ls hs i has_low has_high) in
    read_as_word _ (both joined_halves ls hs) i _ c.requires fits read
