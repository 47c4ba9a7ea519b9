-- The laws of a day, over what has happened in it.
use Rattle.std.specs.Prelude.{◌≡◌, ℕ, ◌+◌, ◌<◌, ◌≤◌, Bool, true, false, cond, ◌&&◌, List, ◌∷◌, ◌++◌, map, length, take, slice_index, slice_index_or, sum_by, Ok}
use Rattle.records.specs.States.{waits, is_rejected, is_morning, is_settled, is_excluded}
use Rattle.records.specs.declared.recorded.Record.{Record}
use Rattle.records.specs.declared.state.State.{State}
use Rattle.records.specs.declared.state.State.TheVariants.{Waiting}
use Rattle.netting.specs.Payments.{is_from, is_to}
use Rattle.netting.specs.Selections.{marked, Chosen}
use Rattle.day.specs.Changes.{in_state}
use Rattle.day.specs.Scene.{Scene}
use Rattle.day.specs.Settling.{Settles}
use Rattle.day.specs.declared.phase.Phase.TheVariants.{MorningCalculated}
use Rattle.law.specs.History.{Event, settles, some_settles, control_of, messages_of, pay_in_for, over_taken, covers_paid_in}
use Rattle.law.specs.Runs.{at_opening, Ran}

-- settled in the morning
abbrev pub in_morning : Record → Bool
in_morning r = is_morning r.state

-- the amounts of the records in such a state
abbrev pub amounts : (State → Bool) → List Record → ℕ
amounts is rs = sum_by (λ r. cond (is r.state) r.amount 0) rs

-- the amounts settled where the house h is on that side
abbrev pub settled_side : (Record → ℕ → Bool) → ℕ → List Record → ℕ
settled_side side h rs = sum_by (λ r. cond (is_settled r.state && side r h) r.amount 0) rs

-- settled by the house h
abbrev pub settled_by : ℕ → List Record → ℕ
settled_by h rs = settled_side is_from h rs

-- settled to it
abbrev pub settled_to : ℕ → List Record → ℕ
settled_to h rs = settled_side is_to h rs

-- the record as it was handed in: rejected, or else waiting
abbrev pub as_handed_in : Record → Record
as_handed_in r = cond (is_rejected r.state) r (in_state Waiting r)

-- The morning's settlement came after the events `before`. The records handed in by then, as they stood, and those of
-- them that are settled in the morning: by the covers of that moment an admissible selection of them is just that
-- set exactly if it holds every payment that some admissible selection holds. No later record is settled in the morning.
pub record Judged (opening : List ℕ) (before : List Event) (records : List Record) : Type 0 where
  pub some : over_taken messages_of before ≤ length records
  pub chosen : Chosen (take (over_taken messages_of before) (map as_handed_in records)) (covers_paid_in opening before) (marked (map in_morning records))
  pub later : (i : ℕ) → over_taken messages_of before ≤ i → slice_index_or (map in_morning records) i false ≡ false

-- The laws: the earliest settlement that was taken is the morning's, wherever it stands among the events; the control totals of
-- the accepted files are the amounts rejected, waiting, settled and excluded; and each house has its cover at the opening, with
-- what was paid in for it and what was settled to it, and less what was settled by it.
pub record Kept (opening : List ℕ) (events : List Event) (records : List Record) (covers : List ℕ) : Type 0 where
  pub morning : (later before : List Event) (e : Event) → events ≡ later ++ e ∷ before → settles e ≡ true → some_settles before ≡ false
      → Judged opening before records
  pub controls : over_taken control_of events
      ≡ amounts is_rejected records + amounts waits records + amounts is_settled records + amounts is_excluded records
  pub houses : length covers ≡ length opening
  pub cover : (h : ℕ) → h < length opening
      → slice_index covers h + settled_by h records ≡ slice_index opening h + over_taken (pay_in_for h) events + settled_to h records

-- wherever events lead from an opening, the laws hold
abbrev pub LawOfTheDay : Type 0
LawOfTheDay = (opening : List ℕ) (sittings : ℕ) (events : List Event) (last : Scene)
    → Ran (length opening) (at_opening opening sittings) events last → Kept opening events last.records last.covers

-- Two keepers of whatever kinds, with the same covers on the same morning, both of which settle it: the same records are settled, and
-- each house is left with the same cover. So it makes no difference which short houses they name on the way.
abbrev pub SameMorning : Type 0
SameMorning = (houses houses' : ℕ) (a a' b b' : Scene) → a.phase ≡ MorningCalculated → a'.phase ≡ MorningCalculated
    → a'.records ≡ a.records → a'.covers ≡ a.covers → Settles houses (Ok tt) a b → Settles houses' (Ok tt) a' b'
    → (b'.records ≡ b.records) × ((h : ℕ) → h < length a.covers → slice_index b'.covers h ≡ slice_index b.covers h)
