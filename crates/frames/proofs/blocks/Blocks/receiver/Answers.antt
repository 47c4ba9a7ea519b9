use Rattle.frames.proofs.Addresses.{receiver_law}
use Rattle.frames.proofs.blocks.Blocks.receiver.Goals as goal

pub returns-clause-law : goal.returns-clause-law
returns-clause-law c = receiver_law
