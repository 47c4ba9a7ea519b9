-- The words of the way to the greatest admissible selection.
use Rattle.std.specs.Prelude.{◌≡◌, ℕ, ◌<◌, ◌≤◌, Bool, true, false, cond, List, length, ℤ, pos, ◌+ℤ◌, ◌==◌, ◌≢◌, slice_index_or}
use Rattle.records.specs.Records.{record_at}
use Rattle.records.specs.declared.recorded.Record.{Record}
use Rattle.netting.specs.Sums.{sum_to}
use Rattle.netting.specs.Payments.{Listed}
use Rattle.netting.specs.Selections.{Selection, marked, Inside, Earlier, Only, Closed, Admissible, Positions}

-- on the way: nothing admissible was lost, and with each payment every earlier one of its sender is there
pub record Standing (rs : List Record) (covers : List ℕ) (S : Selection) : Type 0 where
  pub only : Only rs S
  pub closed : Closed rs S
  pub holds : (A : Selection) → Admissible rs covers A → Inside rs A S

-- the payment at p is the latest that S holds of the house h
pub record Latest (rs : List Record) (S : Selection) (h p : ℕ) : Type 0 where
  pub here : p < length rs
  pub held : S p ≡ true
  pub his : (record_at rs p).sender ≡ h
  pub last : (i : ℕ) → i < length rs → S i ≡ true → (record_at rs i).sender ≡ h → Earlier rs p i → ⊥

-- S holds no payment of the house h from the place n on
abbrev pub NoneFrom : List Record → Selection → ℕ → ℕ → Type 0
NoneFrom rs S h n = (i : ℕ) → n ≤ i → i < length rs → S i ≡ true → (record_at rs i).sender ≢ h

-- R is S but for the payment at p, which left
pub record Without (S : Selection) (p : ℕ) (R : Selection) : Type 0 where
  pub gone : R p ≡ false
  pub rest : (i : ℕ) → i ≢ p → R i ≡ S i

-- how many payments S holds
abbrev pub count : List Record → Selection → ℕ
count rs S = sum_to (λ i. cond (S i) 1 0) (length rs)

-- the amount goes from one house's position to another's
pub record Shifted (before : List ℤ) (from to amount : ℕ) (after : List ℤ) : Type 0 where
  pub long : length after ≡ length before
  pub each : (h : ℕ) → slice_index_or after h (pos 0) +ℤ pos (cond (from == h) amount 0)
      ≡ slice_index_or before h (pos 0) +ℤ pos (cond (to == h) amount 0)

-- the marks, and the positions of so many houses, are in step with the records
pub record InStep (houses : ℕ) (rs : List Record) (marks : List Bool) (positions : List ℤ) : Type 0 where
  pub listed : Listed houses rs
  pub long : length rs ≤ length marks
  pub only : Only rs (marked marks)
  pub at : Positions rs (marked marks) houses positions
