use Rattle.codes.specs.Bics.{bic_formed}
use Rattle.fields.proofs.single.bank.Given as goal

abbrev pub ghost-lone : goal.ghost-lone
ghost-lone a = bic_formed
