use Rattle.std.proofs.Common.{length, sym, ap, ◌∙◌}
use Rattle.part.specs.Parts.{Part}
use Rattle.loader.specs.Answers.{ticket_of}
use Rattle.loader.specs.Loaders.{part_of}
use Rattle.loader.proofs.Tickets.{work_keeps_the_ticket}
use Rattle.loader.proofs.running.Running.work.Goals as goal

pub invariant_of-self-in_default : goal.invariant_of-self-in_default
invariant_of-self-in_default g c =
    let p = part_of g.F.Flash.meaning c.args.self.now.loader in
    let none = ap ticket_of (sym c.work.ensures.answers_as_defined) ∙ sym (ap (λ x. x.1) c.split-answer.ensures.is_the_answer_and_its_ticket) ∙ c.in_default.is in
    record {
      beside =
          c.args.self.now.beside
          ∙ sym (ap (λ (x : Part). x.ticket) c.work.ensures.leaves_the_part_as_defined ∙ work_keeps_the_ticket p (length c.args.buffer.now) none);
    }
