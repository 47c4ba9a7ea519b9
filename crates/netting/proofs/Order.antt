-- All that is asked of the order of a house's payments.
use Rattle.std.proofs.Common.{◌≡◌, ℕ, ◌⊎◌, List}
use Rattle.std.proofs.lemmas.Bool.{cases_order}
use Rattle.records.specs.declared.recorded.Record.{Record}
use Rattle.netting.specs.Selections.{Earlier}

-- of two payments one is the earlier
pub earlier_some_way : (rs : List Record) (i j : ℕ) → (i ≡ j) ⊎ (Earlier rs i j ⊎ Earlier rs j i)
earlier_some_way rs i j = cases_order i j
