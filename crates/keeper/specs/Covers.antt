-- The covers of the houses: a list of cents, by place.
use Rattle.std.specs.Prelude.{ℕ, ◌+◌, cond, List, length, fold, nat_lt, slice_index, Result, Ok, Err}
use Rattle.keeper.specs.declared.answer.CoverDenial.{CoverDenial}
use Rattle.keeper.specs.declared.answer.CoverDenial.TheVariants.{NoSuchHouse}

-- what the question for one house's cover is answered
abbrev pub CoverAnswer : Type 0
CoverAnswer = Result ℕ CoverDenial

-- a keeper has 1 to so many houses
abbrev pub most_houses : ℕ
most_houses = 64

-- the covers together are at most so many cents
abbrev pub most_together : ℕ
most_together = 1000000000000000

-- the covers together
abbrev pub total : List ℕ → ℕ
total covers = fold (λ sum c. sum + c) 0 covers

-- the cover of the house at a place
abbrev pub cover_answer : List ℕ → ℕ → CoverAnswer
cover_answer covers place = cond (nat_lt place (length covers)) (Ok (slice_index covers place)) (Err NoSuchHouse)
