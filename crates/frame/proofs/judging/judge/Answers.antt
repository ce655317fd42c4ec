use Rattle.std.proofs.Common.{sym, subst}
use Rattle.frame.specs.Layout.{length_field}
use Rattle.frame.specs.Places.{Standing}
use Rattle.frame.proofs.Judged.{placed_from, opened_bytes}
use Rattle.frame.proofs.judging.judge.Goals as goal

pub returns-clause-write_data_stand_in_the_frame : goal.returns-clause-write_data_stand_in_the_frame
returns-clause-write_data_stand_in_the_frame c =
    let content = c.in_ok-content.ensures.is_the_content_or_the_first_flaw in
    placed_from c.args.frame.now (length_field c.args.frame.now) _
    (subst (λ d. Standing d c.in_ok-command.command) (opened_bytes 0x85 516 c.args.frame.now _ (sym content)) c.in_ok-command.ensures.at)
