-- A pay-in: a sum for the house at a place.
use Rattle.std.specs.Prelude.{ℕ, ◌+◌, Bool, cond, ◌&&◌, List, length, nat_le, nat_lt, slice_index, slice_set, Result, Ok, Err, IsErr}
use Rattle.keeper.specs.Covers.{total, most_together}
use Rattle.keeper.specs.declared.answer.PayInDenial.{PayInDenial}
use Rattle.keeper.specs.declared.answer.PayInDenial.TheVariants.{NoSuchHouse, Refused}

-- what a pay-in is answered
abbrev pub PayInAnswer : Type 0
PayInAnswer = Result (Unit {0}) PayInDenial

-- one pay-in is of at most so many cents
abbrev pub most_paid_in : ℕ
most_paid_in = 1000000000000

-- the sum is not 0, not too large, and leaves the covers together within their most
abbrev pub acceptable : List ℕ → ℕ → Bool
acceptable covers amount = nat_le 1 amount && (nat_le amount most_paid_in && nat_le (total covers + amount) most_together)

abbrev pub pay_in_answer : List ℕ → ℕ → ℕ → PayInAnswer
pay_in_answer covers place amount = cond (nat_lt place (length covers)) (cond (acceptable covers amount) (Ok tt) (Err Refused)) (Err NoSuchHouse)

-- the covers after a pay-in that was answered so
abbrev pub covers_paid : List ℕ → ℕ → ℕ → PayInAnswer → List ℕ
covers_paid covers place amount (Ok done) = slice_set covers place (slice_index covers place + amount)
covers_paid covers place amount (Err denial) = covers

-- an answer that denies the pay-in
abbrev pub PayInDenied : PayInAnswer → Type 0
PayInDenied answer = IsErr answer
