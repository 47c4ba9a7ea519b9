use Rattle.values.proofs.Months.{numbering_law, same_day_law, six_digits_law}
use Rattle.values.proofs.dates.date_laws.Goals as goal

pub returns : goal.returns
returns c = record { numbering = numbering_law; same_day = same_day_law; six_digits = six_digits_law }
