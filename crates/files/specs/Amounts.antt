-- The amounts that messages count with.
use Rattle.std.specs.Prelude.{ℕ, ◌+◌, List, [], ◌∷◌, length, drop, Some, None, Option}
use Rattle.frames.specs.Fixed.{amount_tag}
use Rattle.frames.specs.Rows.{amount_row}
use Rattle.fields.specs.Value.{counted_of}

-- what a row counts after the amount's tag
abbrev pub counted_by : Option (List ℕ) → ℕ
counted_by None = 0
counted_by (Some r) = counted_of (drop (length amount_tag) r)

-- a message's counted amount: what its first row with the amount's tag counts, or 0 where it has none
abbrev pub counted_amount : List ℕ → ℕ
counted_amount c = counted_by (amount_row c)

-- the counted amounts of messages together
abbrev pub counted_sum : List (List ℕ) → ℕ
counted_sum [] = 0
counted_sum (c ∷ cs) = counted_amount c + counted_sum cs
