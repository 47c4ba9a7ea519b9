-- What an index holds. Assumes nothing.
use Rattle.std.specs.Prelude.{ℕ, List, vec_items, vec_capacity}
use Rattle.index.specs.declared.numbers.Index.{Index}

-- its numbers, in the order of their items' keys
abbrev pub entries : Index → List ℕ
entries x = vec_items x.numbers

-- how many numbers it has memory for
abbrev pub room : Index → ℕ
room x = vec_capacity x.numbers
