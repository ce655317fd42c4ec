use Rattle.std.proofs.Common.{◌≡◌, ◌+◌, ◌*◌, ◌/◌, ◌%◌, ◌<◌, min, map, length, set, refl, ap, ◌∙◌, arith}
use Rattle.std.proofs.lemmas.List.{length-set}
use Rattle.flash.specs.Lists.{both}
use Rattle.flash_kinds.specs.Tables.{left_of}
use Rattle.flash_kinds.specs.Pair.{pair_meaning, pair_pages, joined_halves}
use Rattle.flash.specs.Words.{length_both}
use Rattle.flash_kinds.proofs.Boths.{both_set}
use Rattle.flash_kinds.proofs.Changes.{tables_programmed}
use Rattle.flash_kinds.proofs.pair_flash.parts.PairFlashTables.set.Goals as goal

pub returns-clause-leaves : goal.returns-clause-leaves
returns-clause-leaves c =
    let f = c.args.self.now in
    let m = pair_meaning f in
    let ls = f.low.now in
    let hs = f.high.now in
    let lrs = f.low_records.now in
    let hrs = f.high_records.now in
    let i = c.args.i in
    let v = c.args.value in
    let l = v % 65536 in
    let h = v / 65536 in
    let lefts = both min (map left_of lrs) (map left_of hrs) in
    let has : i < length (both joined_halves ls hs) = omega (arith, length_both joined_halves ls hs) in
    let whole : l + 65536 * h ≡ v = omega arith in
    let words = both_set joined_halves ls hs i l h ∙ ap (λ w. set (both joined_halves ls hs) i w) whole in
    let pages : pair_pages (length (set ls i l)) (length (set hs i h)) (length lrs) (length hrs) ≡ m.pages
    = λ j. pair_pages (length-set ls i l j) (length-set hs i h j) (length lrs) (length hrs) in
    tables_programmed m.pages _ (both joined_halves ls hs) _ lefts lefts f.options.words f.options.writes_left i v pages words refl has
