use Rattle.std.proofs.Common.{ℕ, length, ap, ◌∙◌, refl, subst}
use Rattle.areas.specs.Words.{bytes_of_words}
use Rattle.commands.specs.Kinds.{information_number}
use Rattle.memory.specs.Portions.{words_at}
use Rattle.part.specs.Receiving.{quiet, replied, code_answer, data_answer, information}
use Rattle.receiver.specs.declared.state.Order.TheVariants.{Ignore, Refuse, Tell, Show, Take}
use Rattle.loader.specs.declared.answers.Received.TheVariants.{Bytes}
use Rattle.loader.specs.AnswerBuffers.{Puts}
use Rattle.loader.specs.Loaders.{part_of}
use Rattle.loader.proofs.Obeying.{Obeyed, ordered, rests, takes_up}
use Rattle.loader.proofs.loader.Loader.obey.Goals as goal

pub returns-in-Ignore : goal.returns-in-Ignore
returns-in-Ignore g c =
    let m = g.F.Flash.meaning in
    let l = c.args.self.now in
    let e = ordered m l (Ignore) c.frame.result.now c.pages-pages.result c.frame.ensures.is_the_frame c.frame.ensures.is_the_head_of_the_store
    c.pages-pages.ensures.answer c.in-Ignore.ensures.is_what_the_frame_asks_for in
    let done = subst (Obeyed (part_of m l) _ _ c.args.buffer.now _) e (record {
      answers = refl;
      leaves = rests m l quiet c.requires;
      puts = record { head = refl; loan = refl };
    }) in
    record { answers = done.answers; leaves = done.leaves; puts = done.puts }

pub returns-in-Refuse : goal.returns-in-Refuse
returns-in-Refuse g c =
    let m = g.F.Flash.meaning in
    let l = c.args.self.now in
    let e = ordered m l (Refuse c.in-Refuse.code) c.frame.result.now c.pages-pages.result c.frame.ensures.is_the_frame c.frame.ensures.is_the_head_of_the_store
    c.pages-pages.ensures.answer c.in-Refuse.ensures.is_what_the_frame_asks_for in
    let done = subst (Obeyed (part_of m l) _ _ c.args.buffer.now _) e (record {
      answers = ap Bytes c.put_answer.ensures.count;
      leaves = rests m l (replied (code_answer c.in-Refuse.code)) c.requires;
      puts = c.put_answer.ensures.puts;
    }) in
    record { answers = done.answers; leaves = done.leaves; puts = done.puts }

pub returns-in-Tell : goal.returns-in-Tell
returns-in-Tell g c =
    let m = g.F.Flash.meaning in
    let l = c.args.self.now in
    let e = ordered m l (Tell c.in-Tell.what) c.frame.result.now c.pages-pages.result c.frame.ensures.is_the_frame c.frame.ensures.is_the_head_of_the_store
    c.pages-pages.ensures.answer c.in-Tell.ensures.is_what_the_frame_asks_for in
    let told = λ (pages : ℕ). data_answer (information l.identity l.level pages (information_number c.in-Tell.what)) in
    let pages = c.pages-pages.ensures.answer in
    let done = subst (Obeyed (part_of m l) _ _ c.args.buffer.now _) e (record {
      answers = ap Bytes (c.put_information.ensures.count ∙ ap (λ (n : ℕ). length (told n)) pages);
      leaves = rests m l (replied (told (m l.flash).pages)) c.requires;
      puts = subst (λ (n : ℕ). Puts (told n) c.args.buffer.now c.put_information.new.self) pages c.put_information.ensures.puts;
    }) in
    record { answers = done.answers; leaves = done.leaves; puts = done.puts }

pub returns-in-Show : goal.returns-in-Show
returns-in-Show g c =
    let m = g.F.Flash.meaning in
    let l = c.args.self.now in
    let e = ordered m l (Show c.in-Show.area c.in-Show.first c.in-Show.count) c.frame.result.now c.pages-pages.result c.frame.ensures.is_the_frame c.frame.ensures.is_the_head_of_the_store
    c.pages-pages.ensures.answer c.in-Show.ensures.is_what_the_frame_asks_for in
    let done = subst (Obeyed (part_of m l) _ _ c.args.buffer.now _) e (record {
      answers = ap Bytes c.put_words.ensures.count;
      leaves = rests m l (replied (data_answer (bytes_of_words (words_at (m l.flash) c.in-Show.area c.in-Show.first c.in-Show.count)))) c.requires;
      puts = c.put_words.ensures.puts;
    }) in
    record { answers = done.answers; leaves = done.leaves; puts = done.puts }

pub returns-in-Take : goal.returns-in-Take
returns-in-Take g c =
    let m = g.F.Flash.meaning in
    let l = c.args.self.now in
    let e = ordered m l (Take c.in-Take.task) c.frame.result.now c.pages-pages.result c.frame.ensures.is_the_frame c.frame.ensures.is_the_head_of_the_store
    c.pages-pages.ensures.answer c.in-Take.ensures.is_what_the_frame_asks_for in
    let done = subst (Obeyed (part_of m l) _ _ c.args.buffer.now _) e (record {
      answers = refl;
      leaves = takes_up m l c.hold_bounded.new.self _ c.requires
          c.hold_bounded.ensures.is_busy_with_it c.hold_bounded.ensures.keeps_the_frame c.in-Take.ensures.fits_an_answer_and_takes_a_command;
      puts = record { head = refl; loan = refl };
    }) in
    record { answers = done.answers; leaves = done.leaves; puts = done.puts }
