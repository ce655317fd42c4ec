use Rattle.std.proofs.Common.{◌≡◌, ◌*◌, ◌<◌, ◌≤◌, [], ◌∷◌, map, length, get_or, arith}
use Rattle.flash.specs.Meaning.{blank}
use Rattle.flash_kinds.specs.Tables.{left_of, no_record}
use Rattle.flash_kinds.specs.Word.{word_meaning, word_pages}
use Rattle.flash_kinds.proofs.Changes.{tables_erased, outside_erased, lefts_once_more, left_within}
use Rattle.flash_kinds.proofs.word_flash.parts.WordFlashTables.clear.Goals as goal

pub returns : goal.returns
returns c =
    let f = c.args.self.now in
    let m = word_meaning f in
    let ws = f.words.now in
    let rs = f.records.now in
    let p = c.args.page in
    let filled : 128 * m.pages ≤ length ws = omega arith in
    let pages : word_pages (length c.fill_page.new.cells) (length c.count_erase.new.records) ≡ m.pages
    = λ j. word_pages (c.fill_page.auto.cells j) (c.count_erase.auto.records j) in
    let lefts = lefts_once_more rs _ p c.count_erase.ensures in
    let left = left_within m.pages rs p c.requires.within in
    let above : 0 < left_of (get_or rs p no_record) = omega arith in
    record {
      leaves = tables_erased m.pages _ ws _ (map left_of rs) _ f.options.words f.options.writes_left p pages c.fill_page.ensures lefts c.requires.within filled;
      loans = λ j. record {
        names = f.words.ghost_name ∷ f.records.ghost_name ∷ [];
        outside = outside_erased blank m.pages _ ws _ rs _ p pages c.fill_page.ensures c.count_erase.ensures c.requires.within above j;
      };
    }
