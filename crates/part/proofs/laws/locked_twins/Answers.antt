use Rattle.part.proofs.Twins.{locked_twins_answer_alike}
use Rattle.part.proofs.laws.locked_twins.Goals as goal

pub returns : goal.returns
returns c = record { locked_twins_answer_alike = locked_twins_answer_alike }
