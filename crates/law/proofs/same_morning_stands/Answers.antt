use Rattle.law.proofs.Mornings.{same_mornings}
use Rattle.law.proofs.same_morning_stands.Goals as goal

pub returns : goal.returns
returns c = same_mornings
