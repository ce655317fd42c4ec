use Rattle.std.proofs.Common.{ap, ◌∙◌, arith}
use Rattle.flash.specs.Effects.{written}
use Rattle.memory.specs.Portions.{options_replaced}
use Rattle.part.specs.Working.{options_portion, words_from}
use Rattle.loader.proofs.Lists.{copied_words}
use Rattle.loader.proofs.portions.set_next.Goals as goal

pub returns-clause-leaves : goal.returns-clause-leaves
returns-clause-leaves g c =
    let m = g.F.Flash.meaning c.args.flash.now in
    let bytes = c.stored-data.result.bytes.now in
    let copied = c.copy_words-count.ensures in
    let whole = c.stored-data.result.whole in
    let n = c.copy_words-count.result in
    let w = copied_words bytes c.copy_words-count.new.out n copied.counts_the_words (omega (arith, copied.counts_the_words, c.copy_words-count.array_long))
    copied.puts_each_word ∙ ap words_from c.stored-data.ensures.borrows_the_words_of_the_frame in
    c.replace_next.ensures.leaves ∙ ap (λ ws. written (options_portion m (options_replaced c.args.first ws m.options)).writes m) w
