-- The phases of a day, told apart.
use Rattle.std.specs.Prelude.{ℕ, Bool, true, false}
use Rattle.day.specs.declared.phase.Phase.{Phase}
use Rattle.day.specs.declared.phase.Phase.TheVariants.{MorningCollecting, MorningCalculated, AfternoonCollecting, AfternoonCalculated, Over}

abbrev pub phase_number : Phase → ℕ
phase_number MorningCollecting = 1
phase_number MorningCalculated = 2
phase_number AfternoonCollecting = 3
phase_number AfternoonCalculated = 4
phase_number Over = 5

-- positions are answered, and one of the two settlements is due
abbrev pub is_calculated : Phase → Bool
is_calculated MorningCalculated = true
is_calculated AfternoonCalculated = true
is_calculated _ = false

-- the settlement of the afternoon is due
abbrev pub is_afternoon_calculated : Phase → Bool
is_afternoon_calculated AfternoonCalculated = true
is_afternoon_calculated _ = false
