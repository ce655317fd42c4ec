use Rattle.std.proofs.Common.{◌≡◌, ℕ, ◌*◌, ◌<◌, ◌≤◌, min, [], ◌∷◌, ◌++◌, map, length, get_or, ◌∙◌, arith}
use Rattle.flash_kinds.specs.declared.pair_flash.PairFlash.{PairFlash}
use Rattle.flash.specs.Lists.{both}
use Rattle.flash_kinds.specs.Tables.{left_of, no_record}
use Rattle.flash_kinds.specs.Pair.{pair_meaning, pair_pages, joined_halves}
use Rattle.flash.specs.Words.{length_both}
use Rattle.flash_kinds.proofs.Boths.{both_filled, least_within, least_less}
use Rattle.flash_kinds.proofs.Changes.{tables_erased, outside_erased}
use Rattle.flash_kinds.proofs.pair_flash.parts.PairFlashTables.clear.Goals as goal

-- what erases left above 0 tell of the two chips
record Told (f : PairFlash) (p : ℕ) : Type 0 where
  has_low : p < length f.low_records.now
  has_high : p < length f.high_records.now
  low : 0 < left_of (get_or f.low_records.now p no_record)
  high : 0 < left_of (get_or f.high_records.now p no_record)

told : (f : PairFlash) (p : ℕ) → p < (pair_meaning f).pages → 0 < get_or (pair_meaning f).erases_left p 0 → Told f p
told f p h some =
    let ls = f.low_records.now in
    let hs = f.high_records.now in
    let has_low : p < length ls = omega arith in
    let has_high : p < length hs = omega arith in
    let e = least_within (pair_meaning f).pages ls hs p h has_low has_high in
    record { has_low = has_low; has_high = has_high; low = omega arith; high = omega arith }

pub count_erase-requires-clause-left : goal.count_erase-requires-clause-left
count_erase-requires-clause-left c = (told c.args.self.now _ c.requires.within c.requires.left).low

pub count_erase-requires-2-clause-left : goal.count_erase-requires-2-clause-left
count_erase-requires-2-clause-left c = (told c.args.self.now _ c.requires.within c.requires.left).high

pub returns : goal.returns
returns c =
    let f = c.args.self.now in
    let m = pair_meaning f in
    let p = c.args.page in
    let ls = f.low.now in
    let hs = f.high.now in
    let lrs = f.low_records.now in
    let hrs = f.high_records.now in
    let below = c.requires.within in
    let t = told f p below c.requires.left in
    let filled : 128 * m.pages ≤ length (both joined_halves ls hs) = omega (arith, length_both joined_halves ls hs) in
    let words = (λ j. both joined_halves (c.fill_page.ensures j) (c.fill_page-2.ensures j))
    ∙ both_filled joined_halves (128 * p) 128 0xFFFF 0xFFFF ls hs in
    let lefts = least_less lrs _ hrs _ p t.has_low t.has_high c.count_erase.ensures c.count_erase-2.ensures in
    let pages : pair_pages (length c.fill_page.new.cells) (length c.fill_page-2.new.cells) (length c.count_erase.new.records) (length c.count_erase-2.new.records) ≡ m.pages
    = λ j. pair_pages (c.fill_page.auto.cells j) (c.fill_page-2.auto.cells j) (c.count_erase.auto.records j) (c.count_erase-2.auto.records j) in
    let OutsideLow = outside_erased 0xFFFF m.pages _ ls _ lrs _ p pages c.fill_page.ensures c.count_erase.ensures below t.low in
    let OutsideHigh = outside_erased 0xFFFF m.pages _ hs _ hrs _ p pages c.fill_page-2.ensures c.count_erase-2.ensures below t.high in
    record {
      leaves = tables_erased m.pages _ (both joined_halves ls hs) _ (both min (map left_of lrs) (map left_of hrs)) _ f.options.words f.options.writes_left p pages words lefts below filled;
      loans = λ j. record {
        names = f.low.ghost_name ∷ f.high.ghost_name ∷ f.low_records.ghost_name ∷ f.high_records.ghost_name ∷ [];
        outside = OutsideLow j ++ OutsideHigh j;
      };
    }
