use Rattle.std.proofs.Common.{◌<◌, map, length, set, refl, ap, arith}
use Rattle.std.proofs.lemmas.List.{length-set}
use Rattle.flash_kinds.specs.Tables.{left_of}
use Rattle.flash_kinds.specs.Word.{word_pages}
use Rattle.flash_kinds.proofs.Changes.{tables_programmed}
use Rattle.flash_kinds.proofs.word_flash.parts.WordFlashTables.set.Goals as goal

pub returns-clause-leaves : goal.returns-clause-leaves
returns-clause-leaves c =
    let f = c.args.self.now in
    let ws = f.words.now in
    let rs = f.records.now in
    let i = c.args.i in
    let v = c.args.value in
    let has : i < length ws = omega arith in
    let pages = ap (λ n. word_pages n (length rs)) (length-set ws i v) in
    tables_programmed _ _ ws (set ws i v) (map left_of rs) (map left_of rs) f.options.words f.options.writes_left i v pages refl refl has
