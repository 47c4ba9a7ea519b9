-- What each call does to a day and its keeper, by the definitions of its own promise; and runs of calls.
use Rattle.std.specs.Prelude.{◌≡◌, ℕ, ◌<◌, false, List, [], ◌∷◌, ◌++◌, length, None, MatchBool, ◌==◌, sum_by}
use Rattle.keeper.specs.PayIns.{pay_in_answer, covers_paid}
use Rattle.records.specs.Records.{record_at}
use Rattle.records.specs.States.{is_settled, is_excluded}
use Rattle.records.specs.declared.recorded.Record.{Record}
use Rattle.day.specs.Answers.{calculate_answer, calculated_from, exclude_answer, records_excluded, remembered_excluded}
use Rattle.day.specs.Scene.{Scene}
use Rattle.day.specs.Settling.{Settles, Unmoved}
use Rattle.day.specs.declared.phase.Phase.TheVariants.{MorningCollecting}
use Rattle.law.specs.History.{Event, handed_in, calculated, settled, excluded, paid_in}

-- a day just opened
abbrev pub at_opening : List ℕ → ℕ → Scene
at_opening covers sittings =
    record { phase = MorningCollecting; remembered = None; records = []; covers = covers; sittings = sittings }

-- none of the records is settled or excluded
abbrev pub Untouched : List Record → Type 0
Untouched new = (i : ℕ) → i < length new → (is_settled (record_at new i).state ≡ false) × (is_excluded (record_at new i).state ≡ false)

-- A file is accepted: one record a message joins the records, none of them settled or excluded, and their amounts come to the control total.
pub record Accepted (control messages : ℕ) (a b : Scene) : Type 0 where
  pub new : List Record
  pub count : length new ≡ messages
  pub total : sum_by (λ r. r.amount) new ≡ control
  pub untouched : Untouched new
  pub records : b.records ≡ a.records ++ new
  pub phase : b.phase ≡ a.phase
  pub remembered : b.remembered ≡ a.remembered
  pub covers : b.covers ≡ a.covers
  pub sittings : b.sittings ≡ a.sittings

-- what an event does, in a day of so many houses
abbrev pub Does : ℕ → Event → Scene → Scene → Type 0
Does houses (handed_in control messages number) a b =
    MatchBool (number == 0) (Accepted control messages a b) (Unmoved a b × (b.remembered ≡ a.remembered))
Does houses (calculated r) a b =
    (r ≡ calculate_answer a.phase) × (b.phase ≡ calculated_from a.phase)
    × (b.remembered ≡ a.remembered) × (b.records ≡ a.records) × (b.covers ≡ a.covers) × (b.sittings ≡ a.sittings)
Does houses (settled r) a b = Settles houses r a b
Does houses (excluded place r) a b =
    (r ≡ exclude_answer houses a.phase a.remembered place) × (b.records ≡ records_excluded place r a.records)
    × (b.remembered ≡ remembered_excluded r a.remembered) × (b.phase ≡ a.phase) × (b.covers ≡ a.covers) × (b.sittings ≡ a.sittings)
Does houses (paid_in place amount r) a b =
    (r ≡ pay_in_answer a.covers place amount) × (b.covers ≡ covers_paid a.covers place amount r)
    × (b.phase ≡ a.phase) × (b.remembered ≡ a.remembered) × (b.records ≡ a.records) × (b.sittings ≡ a.sittings)

-- the events lead from one scene to the other
abbrev pub Ran : ℕ → Scene → List Event → Scene → Type 0
Ran houses first [] last = last ≡ first
Ran houses first (e ∷ es) last = (mid : Scene) × Ran houses first es mid × Does houses e mid last
