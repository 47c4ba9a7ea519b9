use Rattle.frames.proofs.Contents.{blocks_law}
use Rattle.frames.proofs.blocks.Blocks.read.Goals as goal

pub returns-then-not-is_framed-clause-law : goal.returns-then-not-is_framed-clause-law
returns-then-not-is_framed-clause-law c = blocks_law

pub returns-then-not-has_all-clause-law : goal.returns-then-not-has_all-clause-law
returns-then-not-has_all-clause-law c = blocks_law

pub returns-clause-law : goal.returns-clause-law
returns-clause-law c = blocks_law
