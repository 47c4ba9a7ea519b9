use Rattle.frames.proofs.Addresses.{sender_law}
use Rattle.frames.proofs.blocks.Blocks.sender.Goals as goal

pub returns-clause-law : goal.returns-clause-law
returns-clause-law c = sender_law
