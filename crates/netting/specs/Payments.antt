-- Payments: the records that wait, each of an amount from one house to another. A return counts as a payment.
use Rattle.std.specs.Prelude.{◌≡◌, ℕ, ◌<◌, ◌≤◌, Bool, true, false, List, length, Some, None, Option, MatchOption, ◌==◌, ◌≢◌}
use Rattle.records.specs.Records.{record_at}
use Rattle.records.specs.States.{waits}
use Rattle.records.specs.declared.recorded.Record.{Record}

-- there are at most so many records
abbrev pub most_records : ℕ
most_records = 4096

-- a payment is of at most so many cents
abbrev pub most_cents : ℕ
most_cents = 1000000000

-- the record at i waits
abbrev pub waiting : List Record → ℕ → Bool
waiting rs i = waits (record_at rs i).state

-- the house h sends it
abbrev pub is_from : Record → ℕ → Bool
is_from r h = r.sender == h

-- the place is that of the house h
abbrev pub is_house : Option ℕ → ℕ → Bool
is_house None h = false
is_house (Some k) h = k == h

-- the house h receives it
abbrev pub is_to : Record → ℕ → Bool
is_to r h = is_house r.receiver h

-- What a payment has to be: from a house to another one, of 1 cent to the most. One with no receiver is none.
pub record Proper (houses : ℕ) (r : Record) : Type 0 where
  pub from : r.sender < houses
  pub to : MatchOption r.receiver ⊥ (λ h. (h < houses) × (h ≢ r.sender))
  pub some : 1 ≤ r.amount
  pub small : r.amount ≤ most_cents

-- records that are not too many, and of which those that wait are proper payments
pub record Listed (houses : ℕ) (rs : List Record) : Type 0 where
  pub few : length rs ≤ most_records
  pub each : (i : ℕ) → i < length rs → waiting rs i ≡ true → Proper houses (record_at rs i)
