use Rattle.fields.specs.Single.{is_operation}
use Rattle.fields.proofs.single.operation.Given as goal

abbrev pub ghost-single : goal.ghost-single
ghost-single a = is_operation
