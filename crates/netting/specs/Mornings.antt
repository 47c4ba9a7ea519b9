-- Worked mornings of three houses, at the places 0, 1 and 2.
use Rattle.std.specs.Prelude.{true, false, List, [], ◌∷◌}
use Rattle.records.specs.Records.{payment}
use Rattle.records.specs.declared.recorded.Record.{Record}
use Rattle.netting.specs.Selections.{marked, Greatest}

-- two payments of house 0, and one of house 1
abbrev pub two_of_one : List Record
two_of_one = payment 0 1 30 ∷ payment 0 2 10 ∷ payment 1 2 40 ∷ []

-- each house pays the next
abbrev pub ring : List Record
ring = payment 0 1 30 ∷ payment 1 2 25 ∷ payment 2 0 20 ∷ []

pub record WorkedMornings : Type 0 where
  -- a cover of 30 carries only the first payment of house 0, and house 1 receives too little to send its own
  pub first_only : Greatest two_of_one (30 ∷ 0 ∷ 0 ∷ []) (marked (true ∷ false ∷ false ∷ []))
  -- in the ring a cover of 10 carries all three payments at once, though it carries none alone
  pub whole_ring : Greatest ring (10 ∷ 0 ∷ 0 ∷ []) (marked (true ∷ true ∷ true ∷ []))
  -- a cover of 5 carries none
  pub no_ring : Greatest ring (5 ∷ 0 ∷ 0 ∷ []) (marked (false ∷ false ∷ false ∷ []))
