-- Selections of the payments that wait, and which of them the covers admit.
use Rattle.std.specs.Prelude.{◌≡◌, ℕ, ◌-◌, ◌<◌, ◌≤◌, Bool, true, false, cond, ◌&&◌, List, length, ℤ, pos, ◌-ℤ◌, slice_index, slice_index_or}
use Rattle.records.specs.Records.{record_at}
use Rattle.records.specs.declared.recorded.Record.{Record}
use Rattle.netting.specs.Sums.{sum_to}
use Rattle.netting.specs.Payments.{waiting, is_from, is_to}

-- A selection says of each place whether the payment there is selected.
abbrev pub Selection : Type 0
Selection = ℕ → Bool

-- the selection that a list of marks makes
abbrev pub marked : List Bool → Selection
marked marks i = slice_index_or marks i false

-- each payment that A holds is held by S
abbrev pub Inside : List Record → Selection → Selection → Type 0
Inside rs A S = (i : ℕ) → i < length rs → A i ≡ true → S i ≡ true

-- the two selections hold the same payments
abbrev pub Same : List Record → Selection → Selection → Type 0
Same rs A S = (i : ℕ) → i < length rs → A i ≡ S i

-- the amount at i, if S holds it and the house h is on that side of it; else nothing
abbrev pub share : (Record → ℕ → Bool) → List Record → Selection → ℕ → ℕ → ℕ
share side rs S h i = cond (S i && side (record_at rs i) h) (record_at rs i).amount 0

-- what the house h sends under the selection
abbrev pub sent : List Record → Selection → ℕ → ℕ
sent rs S h = sum_to (share is_from rs S h) (length rs)

-- what it receives
abbrev pub received : List Record → Selection → ℕ → ℕ
received rs S h = sum_to (share is_to rs S h) (length rs)

-- by how much it sends more than it receives; 0 if it does not
abbrev pub debit : List Record → Selection → ℕ → ℕ
debit rs S h = sent rs S h - received rs S h

-- its position: what it receives less what it sends
abbrev pub position_of : List Record → Selection → ℕ → ℤ
position_of rs S h = pos (received rs S h) -ℤ pos (sent rs S h)

-- a list of the houses' positions
pub record Positions (rs : List Record) (S : Selection) (houses : ℕ) (positions : List ℤ) : Type 0 where
  pub long : length positions ≡ houses
  pub each : (h : ℕ) → h < houses → slice_index_or positions h (pos 0) ≡ position_of rs S h

-- The order in which a house's payments are to be settled: the payment at i goes before the one at j.
abbrev pub Earlier : List Record → ℕ → ℕ → Type 0
Earlier rs i j = i < j

-- the selection holds only payments that wait
abbrev pub Only : List Record → Selection → Type 0
Only rs S = (i : ℕ) → i < length rs → S i ≡ true → waiting rs i ≡ true

-- with each payment the selection holds every earlier one of its sender that waits
abbrev pub Closed : List Record → Selection → Type 0
Closed rs S = (i j : ℕ) → i < length rs → j < length rs → Earlier rs i j
    → waiting rs i ≡ true → (record_at rs i).sender ≡ (record_at rs j).sender → S j ≡ true → S i ≡ true

-- no house's debit is above its cover
abbrev pub Covered : List Record → List ℕ → Selection → Type 0
Covered rs covers S = (h : ℕ) → h < length covers → debit rs S h ≤ slice_index covers h

-- what the covers admit
pub record Admissible (rs : List Record) (covers : List ℕ) (S : Selection) : Type 0 where
  pub only : Only rs S
  pub closed : Closed rs S
  pub covered : Covered rs covers S

-- S is admissible, and every admissible selection is inside it
pub record Greatest (rs : List Record) (covers : List ℕ) (S : Selection) : Type 0 where
  pub admissible : Admissible rs covers S
  pub holds : (A : Selection) → Admissible rs covers A → Inside rs A S

-- A holds every payment that some admissible selection holds
abbrev pub HoldsAll : List Record → List ℕ → Selection → Type 0
HoldsAll rs covers A = (i : ℕ) → i < length rs → (B : Selection) → Admissible rs covers B → B i ≡ true → A i ≡ true

-- S is admissible, and an admissible selection is S exactly if it holds every payment that some admissible one holds
pub record Chosen (rs : List Record) (covers : List ℕ) (S : Selection) : Type 0 where
  pub admissible : Admissible rs covers S
  pub if_same : (A : Selection) → Admissible rs covers A → Same rs A S → HoldsAll rs covers A
  pub only_if_same : (A : Selection) → Admissible rs covers A → HoldsAll rs covers A → Same rs A S
