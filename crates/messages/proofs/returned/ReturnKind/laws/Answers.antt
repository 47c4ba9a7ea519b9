use Rattle.messages.proofs.Sounds.{return_sound}
use Rattle.messages.proofs.returned.ReturnKind.laws.Goals as goal

pub returns : goal.returns
returns c = return_sound
