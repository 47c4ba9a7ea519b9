use Rattle.fields.specs.Single.{is_charge}
use Rattle.fields.proofs.single.charges.Given as goal

abbrev pub ghost-single : goal.ghost-single
ghost-single a = is_charge
