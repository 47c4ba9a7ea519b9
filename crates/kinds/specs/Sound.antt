-- What every kind's contents have that pass.
use Rattle.std.specs.Prelude.{◌≡◌, ℕ, ◌≤◌, true, false, List, is_some, None, Ok, Err, Option, Result, slice_index_or}
use Rattle.faults.specs.declared.code.Fault.{Fault}
use Rattle.settings.specs.Places.{bic_at, suspended_at}
use Rattle.settings.specs.declared.house.House.{House}
use Rattle.cuts.specs.Cuts.{Parts}
use Rattle.fields.specs.Shapes.{Part}
use Rattle.fields.specs.Value.{counted_of}
use Rattle.fields.specs.declared.terms.Terms.{Terms}
use Rattle.text.specs.Reference.{is_reference}
use Rattle.values.specs.Amounts.{limit}
use Rattle.kinds.specs.Contents.{row_in}
use Rattle.kinds.specs.Verdicts.{Reads, Approved}

-- a good reference in the first slot, and in that of the value an amount that is not nothing and not over the limit
pub record Proper (slot : ℕ) (ps : List (Option Part)) : Type 0 where
  pub reference : is_reference (row_in (slice_index_or ps 0 None)) ≡ true
  pub some : 1 ≤ counted_of (row_in (slice_index_or ps slot None))
  pub few : counted_of (row_in (slice_index_or ps slot None)) ≤ limit

-- whatever passes is proper
abbrev pub Sound : ℕ → Reads → Type 0
Sound slot reads = (terms : Terms) (receiver : List ℕ) (fs : List Parts) (ps : List (Option Part)) → reads terms receiver fs ≡ Ok ps → Proper slot ps

-- a message that passes for the sender: its receiver is another house and not suspended, its reference is good, and its amount is 1 cent at least and of the limit at most
pub record Payable (hs : List House) (sender : ℕ) (a : Approved) : Type 0 where
  pub house : is_some (bic_at hs a.receiver) ≡ true
  pub active : suspended_at hs a.receiver ≡ false
  pub other : a.receiver ≡ sender → ⊥
  pub reference : is_reference a.reference ≡ true
  pub some : 1 ≤ a.amount
  pub few : a.amount ≤ limit

abbrev pub PayableIf : List House → ℕ → Result Approved Fault → Type 0
PayableIf hs sender (Ok a) = Payable hs sender a
PayableIf hs sender (Err f) = Unit {0}
