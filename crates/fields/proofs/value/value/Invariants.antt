use Rattle.fields.specs.Value.{is_value}
use Rattle.fields.proofs.value.value.Given as goal

abbrev pub ghost-lone : goal.ghost-lone
ghost-lone a = is_value
