use Rattle.names.proofs.Good.{name_law}
use Rattle.names.proofs.judge.judge_name.Goals as goal

pub returns-in_default-clause-law : goal.returns-in_default-clause-law
returns-in_default-clause-law c = name_law

pub returns-then-extension-ne-EXTENSION_SIZE-clause-law : goal.returns-then-extension-ne-EXTENSION_SIZE-clause-law
returns-then-extension-ne-EXTENSION_SIZE-clause-law c = name_law

pub returns-clause-law : goal.returns-clause-law
returns-clause-law c = name_law
