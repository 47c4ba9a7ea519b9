-- What has happened in a day: the calls with their answers, the latest first.
use Rattle.std.specs.Prelude.{ℕ, Bool, true, false, cond, ◌&&◌, List, [], ◌∷◌, ◌==◌, sum_by, filter}
use Rattle.std.specs.List.{list_any}
use Rattle.keeper.specs.Numbers.{pay_in_number}
use Rattle.keeper.specs.PayIns.{PayInAnswer, covers_paid}
use Rattle.day.specs.Answers.{CalculateAnswer, ExcludeAnswer}
use Rattle.day.specs.Settling.{SettleAnswer}
use Rattle.day.specs.Numbers.{calculate_number, settle_number, exclude_number}

-- A call and its answer. Of a file only its control total and how many messages it has are told, and the number that it was answered.
pub data Event : Type 0 where
  handed_in : ℕ → ℕ → ℕ → Event
  calculated : CalculateAnswer → Event
  settled : SettleAnswer → Event
  excluded : ℕ → ExcludeAnswer → Event
  paid_in : ℕ → ℕ → PayInAnswer → Event

-- the number of its answer
abbrev pub number_of : Event → ℕ
number_of (handed_in control messages number) = number
number_of (calculated r) = calculate_number r
number_of (settled r) = settle_number r
number_of (excluded place r) = exclude_number r
number_of (paid_in place amount r) = pay_in_number r

-- an event is taken if it is answered 0
abbrev pub taken : Event → Bool
taken e = number_of e == 0

-- the control total of a file
abbrev pub control_of : Event → ℕ
control_of (handed_in control messages number) = control
control_of _ = 0

-- how many messages a file has
abbrev pub messages_of : Event → ℕ
messages_of (handed_in control messages number) = messages
messages_of _ = 0

-- what a pay-in is for the house h
abbrev pub pay_in_for : ℕ → Event → ℕ
pay_in_for h (paid_in place amount r) = cond (place == h) amount 0
pay_in_for h _ = 0

abbrev pub is_settle : Event → Bool
is_settle (settled r) = true
is_settle _ = false

-- the sum of f over the events that were taken
abbrev pub over_taken : (Event → ℕ) → List Event → ℕ
over_taken f es = sum_by f (filter taken es)

-- the covers, where of the events only the pay-ins count
abbrev pub covers_paid_by : Event → List ℕ → List ℕ
covers_paid_by (paid_in place amount r) covers = covers_paid covers place amount r
covers_paid_by _ covers = covers

abbrev pub covers_paid_in : List ℕ → List Event → List ℕ
covers_paid_in opening [] = opening
covers_paid_in opening (e ∷ es) = covers_paid_by e (covers_paid_in opening es)

-- a settlement that is taken
abbrev pub settles : Event → Bool
settles e = is_settle e && taken e

abbrev pub some_settles : List Event → Bool
some_settles es = list_any settles es
