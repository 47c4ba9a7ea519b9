use Rattle.codes.specs.Instructions.{instruction_ok}
use Rattle.fields.proofs.single.instruction.Given as goal

abbrev pub ghost-single : goal.ghost-single
ghost-single a = instruction_ok
