use Rattle.part.proofs.Twins.{opens_only_erased}
use Rattle.part.proofs.laws.openings.Goals as goal

pub returns : goal.returns
returns c = record { opens_only_erased = opens_only_erased }
