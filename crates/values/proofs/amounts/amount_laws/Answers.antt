use Rattle.values.proofs.Reading.{reading_law}
use Rattle.values.proofs.Writing.{writing_law}
use Rattle.values.proofs.amounts.amount_laws.Goals as goal

pub returns : goal.returns
returns c = record { reading = reading_law; writing = writing_law }
