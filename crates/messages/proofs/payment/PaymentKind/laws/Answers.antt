use Rattle.messages.proofs.Sounds.{payment_sound}
use Rattle.messages.proofs.payment.PaymentKind.laws.Goals as goal

pub returns : goal.returns
returns c = payment_sound
