use Rattle.text.specs.Reference.{is_reference}
use Rattle.fields.proofs.single.reference.Given as goal

abbrev pub ghost-single : goal.ghost-single
ghost-single a = is_reference
