use Rattle.files.proofs.StatedRows.{stated_law}
use Rattle.files.proofs.reading.stated_law.Goals as goal

pub returns : goal.returns
returns c = stated_law
