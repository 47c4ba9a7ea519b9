-- The answers of opening. Assumes nothing.
use Rattle.std.specs.Prelude.{ℕ, Some, None, Option}
use Rattle.settings.specs.declared.answers.OpenDenial.{OpenDenial}
use Rattle.settings.specs.declared.answers.OpenDenial.TheVariants.{BreaksRule, NoMemory}

abbrev pub denial_number : OpenDenial → Option ℕ
denial_number BreaksRule = Some 20
denial_number NoMemory = None
