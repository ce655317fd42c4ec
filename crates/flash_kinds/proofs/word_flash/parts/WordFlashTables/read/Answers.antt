use Rattle.std.proofs.Common.{◌<◌, length, arith}
use Rattle.std.proofs.lemmas.List.{get_or_read}
use Rattle.flash_kinds.proofs.Changes.{read_as_word}
use Rattle.flash_kinds.proofs.word_flash.parts.WordFlashTables.read.Goals as goal

pub returns : goal.returns
returns c =
    let ws = c.args.self.now.words.now in
    let i = c.args.i in
    let has : i < length ws = omega arith in
    read_as_word _ ws i _ c.requires c.at.type_inv (get_or_read ws i _ has c.at.ensures 0)
