use Rattle.part.proofs.Stretches.{checks_answer_for_the_stretch}
use Rattle.part.proofs.laws.whole_checks.Goals as goal

pub returns : goal.returns
returns c = record { checks_answer_for_the_stretch = checks_answer_for_the_stretch }
