-- The laws of the greatest admissible selection.
use Rattle.std.specs.Prelude.{◌≡◌, ℕ, ◌<◌, ◌≤◌, Bool, List, length, ℤ, slice_index, Ok}
use Rattle.keeper.specs.Offers.{Sound}
use Rattle.records.specs.declared.recorded.Record.{Record}
use Rattle.netting.specs.Payments.{Listed}
use Rattle.netting.specs.Outcomes.{MorningSettled}
use Rattle.netting.specs.Selections.{Selection, marked, Inside, Same, Only, Positions, Greatest, Chosen}

-- there is one greatest selection, whichever way leads to it
abbrev pub OneGreatest : Type 0
OneGreatest = (rs : List Record) (covers : List ℕ) (S R : Selection) → Greatest rs covers S → Greatest rs covers R → Same rs S R

-- so two keepers with the same covers, of whatever kinds, settle the same payments in the morning and are left with the same covers
abbrev pub SameMorning : Type 0
SameMorning = (rs : List Record) (covers : List ℕ) (marks marks' : List Bool) (sittings sittings' left left' : ℕ) (after after' : List ℕ)
    → MorningSettled rs marks covers sittings after left (Ok tt) → MorningSettled rs marks' covers sittings' after' left' (Ok tt)
    → Same rs (marked marks) (marked marks') × ((h : ℕ) → h < length covers → slice_index after h ≡ slice_index after' h)

-- the greatest selection is the chosen one
abbrev pub GreatestIsChosen : Type 0
GreatestIsChosen = (rs : List Record) (covers : List ℕ) (S : Selection) → Greatest rs covers S → Chosen rs covers S

-- no cover is lower
abbrev pub NoneLower : List ℕ → List ℕ → Type 0
NoneLower before after = (length after ≡ length before) × ((h : ℕ) → h < length before → slice_index before h ≤ slice_index after h)

-- it grows with the covers: where no cover is lower, every payment that was settled is settled still
abbrev pub GrowsWithCovers : Type 0
GrowsWithCovers = (rs : List Record) (before after : List ℕ) (S R : Selection) → NoneLower before after
    → Greatest rs before S → Greatest rs after R → Inside rs S R

-- whatever is selected of the payments that wait, the houses' positions make a sound offer: together 0, and none past the keeper's limit
abbrev pub AlwaysSound : Type 0
AlwaysSound = (houses : ℕ) (rs : List Record) (S : Selection) (positions : List ℤ) → Listed houses rs → Only rs S
    → Positions rs S houses positions → Sound houses positions
