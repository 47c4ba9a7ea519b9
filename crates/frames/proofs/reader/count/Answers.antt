use Rattle.frames.proofs.Bodies.{frames_law}
use Rattle.frames.proofs.reader.count.Goals as goal

pub returns-clause-law : goal.returns-clause-law
returns-clause-law c = frames_law
