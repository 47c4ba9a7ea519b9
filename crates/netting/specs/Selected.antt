-- The selected payments, in the slices that the caller lends for them.
use Rattle.std.specs.Prelude.{◌≡◌, ℕ, ◌<◌, Bool, List, length, ℤ, slice_index}
use Rattle.std.specs.Borrow.{MutBor}
use Rattle.records.specs.declared.recorded.Record.{Record}
use Rattle.netting.specs.Selections.{marked}
use Rattle.netting.specs.Steps.{Standing}
use Rattle.netting.specs.declared.selecting.Selected.{Selected}

-- they are of these records, and stand in these marks and positions
pub record StandsIn (records : List Record) (marks : MutBor (List Bool)) (positions : MutBor (List ℤ)) (s : Selected) : Type 0 where
  pub of : s.records.now ≡ records
  pub marks_there : s.marks.ghost_name ≡ marks.ghost_name
  pub positions_there : s.positions.ghost_name ≡ positions.ghost_name
  pub houses : length s.positions.now ≡ length positions.now

-- from a to b nothing admissible is lost, whatever the covers, if the house has this one
abbrev pub LosesNothing : ℕ → ℕ → Selected → Selected → Type 0
LosesNothing house cover a b = (covers : List ℕ) → house < length covers → slice_index covers house ≡ cover
    → Standing a.records.now covers (marked a.marks.now) → Standing a.records.now covers (marked b.marks.now)
