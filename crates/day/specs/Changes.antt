-- What the calls make of a record: nothing of it changes but its state.
use Rattle.std.specs.Prelude.{◌≡◌, ℕ, ◌<◌, Bool, cond, ◌&&◌, ◌||◌, List, [], ◌∷◌, length}
use Rattle.records.specs.Records.{record_at}
use Rattle.records.specs.States.{waits}
use Rattle.records.specs.declared.recorded.Record.{Record}
use Rattle.records.specs.declared.state.State.{State}
use Rattle.records.specs.declared.state.State.TheVariants.{SettledMorning, SettledAfternoon, Excluded}
use Rattle.netting.specs.Payments.{is_from, is_to}

-- the record in another state
abbrev pub in_state : State → Record → Record
in_state s r = record r { state = s }

-- the record, in the state s if the test says so
abbrev pub put : State → Bool → Record → Record
put s test r = cond test (in_state s r) r

-- the marked records are settled in the morning
abbrev pub stamp : List Bool → List Record → List Record
stamp [] rs = rs
stamp (b ∷ bs) [] = []
stamp (b ∷ bs) (r ∷ rs) = put SettledMorning b r ∷ stamp bs rs

-- a record that waits is settled in the afternoon
abbrev pub settled_at_last : Record → Record
settled_at_last r = put SettledAfternoon (waits r.state) r

-- a record that waits, by or to the house h, is excluded
abbrev pub excluded_with : ℕ → Record → Record
excluded_with h r = put Excluded (waits r.state && (is_from r h || is_to r h)) r

-- the test is asked of each record and its place, and where it says yes, the record goes into the state s
pub record PutWhere (Says : ℕ → Record → Bool → Type 0) (s : State) (before after : List Record) : Type 0 where
  pub long : length after ≡ length before
  pub each : (k : ℕ) → k < length before → (b : Bool) × Says k (record_at before k) b × (record_at after k ≡ put s b (record_at before k))
