-- The number of each answer: 0 where the call was carried out, else the denial's.
use Rattle.std.specs.Prelude.{ℕ}
use Rattle.keeper.specs.Numbers.{outcome_number}
use Rattle.day.specs.Answers.{CalculateAnswer, PositionAnswer, ExcludeAnswer}
use Rattle.day.specs.Settling.{SettleAnswer}
use Rattle.day.specs.declared.answer.CalculateDenial.{CalculateDenial}
use Rattle.day.specs.declared.answer.CalculateDenial.TheVariants as calculate
use Rattle.day.specs.declared.answer.PositionDenial.{PositionDenial}
use Rattle.day.specs.declared.answer.PositionDenial.TheVariants as position
use Rattle.day.specs.declared.answer.SettleDenial.{SettleDenial}
use Rattle.day.specs.declared.answer.SettleDenial.TheVariants as settle
use Rattle.day.specs.declared.answer.ExcludeDenial.{ExcludeDenial}
use Rattle.day.specs.declared.answer.ExcludeDenial.TheVariants as exclude

abbrev pub calculate_denial_number : CalculateDenial → ℕ
calculate_denial_number calculate.WrongPhase = 2

abbrev pub position_denial_number : PositionDenial → ℕ
position_denial_number position.NoSuchHouse = 1
position_denial_number position.WrongPhase = 2

abbrev pub settle_denial_number : SettleDenial → ℕ
settle_denial_number settle.WrongPhase = 2
settle_denial_number settle.OtherHouses = 15
settle_denial_number settle.NoSitting = 16
settle_denial_number (settle.Short place cover) = 17

abbrev pub exclude_denial_number : ExcludeDenial → ℕ
exclude_denial_number exclude.NoSuchHouse = 1
exclude_denial_number exclude.WrongPhase = 2
exclude_denial_number exclude.NotRemembered = 18

abbrev pub calculate_number : CalculateAnswer → ℕ
calculate_number answer = outcome_number calculate_denial_number answer

abbrev pub position_number : PositionAnswer → ℕ
position_number answer = outcome_number position_denial_number answer

abbrev pub settle_number : SettleAnswer → ℕ
settle_number answer = outcome_number settle_denial_number answer

abbrev pub exclude_number : ExcludeAnswer → ℕ
exclude_number answer = outcome_number exclude_denial_number answer
