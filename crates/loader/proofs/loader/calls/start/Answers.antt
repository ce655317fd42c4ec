use Rattle.std.proofs.Common.{◌≡◌, None, sym, subst, rules}
use Rattle.part.specs.Laws.{AnswersAsItsLockedTwins, OpensErased, ChecksWholeStretches}
use Rattle.part.specs.Parts.{started}
use Rattle.part.proofs.Stretches.{checks_answer_for_the_stretch}
use Rattle.part.proofs.Twins.{locked_twins_answer_alike, opens_only_erased}
use Rattle.loader.specs.Loaders.{part_of}
use Rattle.loader.proofs.loader.calls.start.Goals as goal

pub returns : goal.returns
returns g c =
    let i = c.args.identity in
    let m = g.F.Flash.meaning c.args.flash in
    let sound = g.met.F.Flash.sound c.args.flash in
    let e : part_of g.F.Flash.meaning (record { flash = c.args.flash; identity = i; level = c.loaded_level-level.result; last = None; receiver = c.new.result }) ≡ started i m = search rules in
    record {
      is_a_part_as_it_starts = e;
      locked_twins_answer_alike_for_good = subst AnswersAsItsLockedTwins (sym e) (λ j n t. locked_twins_answer_alike i j m n sound t);
      opens_only_once_every_page_is_erased = subst OpensErased (sym e) (opens_only_erased i m sound);
      memory_crc_answers_for_the_whole_stretch = subst ChecksWholeStretches (sym e) (checks_answer_for_the_stretch i m);
    }
