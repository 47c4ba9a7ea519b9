-- What calculate, position and exclude answer, and what they leave.
use Rattle.std.specs.Prelude.{ℕ, ℤ, cond, List, map, None, Option, nat_lt, Result, Ok, Err}
use Rattle.records.specs.declared.recorded.Record.{Record}
use Rattle.netting.specs.Payments.{waiting, is_house}
use Rattle.netting.specs.Selections.{position_of}
use Rattle.day.specs.Phases.{is_calculated, is_afternoon_calculated}
use Rattle.day.specs.Changes.{excluded_with}
use Rattle.day.specs.declared.phase.Phase.{Phase}
use Rattle.day.specs.declared.phase.Phase.TheVariants.{MorningCollecting, MorningCalculated, AfternoonCollecting, AfternoonCalculated}
use Rattle.day.specs.declared.answer.CalculateDenial.{CalculateDenial}
use Rattle.day.specs.declared.answer.CalculateDenial.TheVariants as calculate
use Rattle.day.specs.declared.answer.PositionDenial.{PositionDenial}
use Rattle.day.specs.declared.answer.PositionDenial.TheVariants as position
use Rattle.day.specs.declared.answer.ExcludeDenial.{ExcludeDenial}
use Rattle.day.specs.declared.answer.ExcludeDenial.TheVariants as exclude

-- what each of them is answered
abbrev pub CalculateAnswer : Type 0
CalculateAnswer = Result (Unit {0}) CalculateDenial

abbrev pub PositionAnswer : Type 0
PositionAnswer = Result ℤ PositionDenial

abbrev pub ExcludeAnswer : Type 0
ExcludeAnswer = Result (Unit {0}) ExcludeDenial

-- calculate ends the collecting, of the morning or of the afternoon
abbrev pub calculate_answer : Phase → CalculateAnswer
calculate_answer MorningCollecting = Ok tt
calculate_answer AfternoonCollecting = Ok tt
calculate_answer _ = Err calculate.WrongPhase

-- the phase that it leaves
abbrev pub calculated_from : Phase → Phase
calculated_from MorningCollecting = MorningCalculated
calculated_from AfternoonCollecting = AfternoonCalculated
calculated_from phase = phase

-- a position is answered for a house, where one of the settlements is due: what it is to receive less what it is to send, over all that waits
abbrev pub position_answer : ℕ → Phase → List Record → ℕ → PositionAnswer
position_answer houses phase rs place =
    cond (nat_lt place houses)
    (cond (is_calculated phase) (Ok (position_of rs (waiting rs) place)) (Err position.WrongPhase))
    (Err position.NoSuchHouse)

-- a house is excluded where the settlement of the afternoon is due, if it is the one that the day remembers
abbrev pub exclude_answer : ℕ → Phase → Option ℕ → ℕ → ExcludeAnswer
exclude_answer houses phase remembered place =
    cond (nat_lt place houses)
    (cond (is_afternoon_calculated phase) (cond (is_house remembered place) (Ok tt) (Err exclude.NotRemembered)) (Err exclude.WrongPhase))
    (Err exclude.NoSuchHouse)

-- the records after an exclude that was answered so
abbrev pub records_excluded : ℕ → ExcludeAnswer → List Record → List Record
records_excluded place (Ok done) rs = map (excluded_with place) rs
records_excluded place (Err denial) rs = rs

-- the house that is remembered after it
abbrev pub remembered_excluded : ExcludeAnswer → Option ℕ → Option ℕ
remembered_excluded (Ok done) remembered = None
remembered_excluded (Err denial) remembered = remembered
