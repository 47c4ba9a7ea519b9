-- What a settlement is answered and leaves, in a day of so many houses.
use Rattle.std.specs.Prelude.{◌≡◌, ℕ, ◌<◌, Bool, true, false, ◌⊎◌, List, map, length, Some, ◌≢◌, Result, Ok, Err}
use Rattle.netting.specs.Payments.{waiting}
use Rattle.netting.specs.Outcomes.{Booked, Morning, ShortOfAll}
use Rattle.day.specs.Phases.{is_calculated}
use Rattle.day.specs.Changes.{stamp, settled_at_last}
use Rattle.day.specs.Scene.{Scene}
use Rattle.day.specs.declared.phase.Phase.TheVariants.{MorningCalculated, AfternoonCollecting, AfternoonCalculated, Over}
use Rattle.day.specs.declared.answer.SettleDenial.{SettleDenial}
use Rattle.day.specs.declared.answer.SettleDenial.TheVariants.{WrongPhase, OtherHouses, NoSitting, Short}

-- what a settlement is answered
abbrev pub SettleAnswer : Type 0
SettleAnswer = Result (Unit {0}) SettleDenial

-- The morning: the marked records, the greatest selection of what waits that the covers admit, are settled and booked; the rest wait.
pub record MorningDone (a b : Scene) : Type 0 where
  pub due : a.phase ≡ MorningCalculated
  pub marks : List Bool
  pub morning : Morning a.records marks a.covers a.sittings b.covers b.sittings
  pub records : b.records ≡ stamp marks a.records
  pub phase : b.phase ≡ AfternoonCollecting
  pub remembered : b.remembered ≡ a.remembered

-- The afternoon: all that waits is settled and booked.
pub record AfternoonDone (a b : Scene) : Type 0 where
  pub due : a.phase ≡ AfternoonCalculated
  pub booked : Booked a.records (waiting a.records) a.covers a.sittings b.covers b.sittings
  pub records : b.records ≡ map settled_at_last a.records
  pub phase : b.phase ≡ Over
  pub remembered : b.remembered ≡ a.remembered

-- nothing changes, but for the house that is remembered
pub record Unmoved (a b : Scene) : Type 0 where
  pub phase : b.phase ≡ a.phase
  pub records : b.records ≡ a.records
  pub covers : b.covers ≡ a.covers
  pub sittings : b.sittings ≡ a.sittings

-- The answers in the order in which they are looked for. Only in the afternoon is a house named short, and then it is remembered.
abbrev pub Settles : ℕ → SettleAnswer → Scene → Scene → Type 0
Settles houses (Err WrongPhase) a b = (is_calculated a.phase ≡ false) × Unmoved a b × (b.remembered ≡ a.remembered)
Settles houses (Err OtherHouses) a b =
    (is_calculated a.phase ≡ true) × (length a.covers ≢ houses) × Unmoved a b × (b.remembered ≡ a.remembered)
Settles houses (Err NoSitting) a b =
    (is_calculated a.phase ≡ true) × (length a.covers ≡ houses) × (a.sittings ≡ 0) × Unmoved a b × (b.remembered ≡ a.remembered)
Settles houses (Err (Short place cover)) a b =
    (a.phase ≡ AfternoonCalculated) × (length a.covers ≡ houses) × (0 < a.sittings) × ShortOfAll a.records a.covers place cover
    × Unmoved a b × (b.remembered ≡ Some place)
Settles houses (Ok done) a b = (length a.covers ≡ houses) × (MorningDone a b ⊎ AfternoonDone a b)
