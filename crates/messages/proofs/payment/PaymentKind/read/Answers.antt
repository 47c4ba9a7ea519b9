use Rattle.std.proofs.Common.{sym, ap, ◌∙◌}
use Rattle.std.specs.Option.{option_map}
use Rattle.messages.specs.PaymentForms.{laid_payment}
use Rattle.messages.specs.Payments.{payment_of}
use Rattle.messages.specs.Readings.{in_slots}
use Rattle.messages.proofs.payment.PaymentKind.read.Goals as goal

pub returns : goal.returns
returns c =
    let laid = ap (λ o. option_map laid_payment o) (sym c.in_ok-laid.ensures.ok_part) ∙ c.lay_out.ensures in
    c.read_laid.ensures ∙ ap (λ o. in_slots (payment_of c.args.terms c.args.receiver.now) o) laid
