-- A day, as its callers see it.
use Rattle.std.specs.Prelude.{◌≡◌, ℕ, List, length, take, drop}
use Rattle.records.specs.declared.recorded.Record.{Record}
use Rattle.day.specs.Scene.{Scene}
use Rattle.day.specs.declared.ledger.Ledger.{Ledger}
use Rattle.day.specs.declared.day.Day.{Day}

-- the records so far
abbrev pub records_of : Ledger → List Record
records_of l = take l.used l.records.now

-- the places of the caller's slice that are free
abbrev pub free_of : Ledger → List Record
free_of l = drop l.used l.records.now

-- What calculating, settling and excluding leave as it was: the caller's slice with its length, how many records there are, every free place, and the houses.
abbrev pub Fixed : Ledger → Ledger → Type 0
Fixed a b =
    (b.records.ghost_name ≡ a.records.ghost_name) × (length b.records.now ≡ length a.records.now) × (b.used ≡ a.used)
    × (free_of b ≡ free_of a) × (b.houses ≡ a.houses)

-- the day, with what its keeper has
abbrev pub scene_of : Day → List ℕ → ℕ → Scene
scene_of d covers sittings =
    record { phase = d.phase; remembered = d.remembered; records = records_of d.ledger; covers = covers; sittings = sittings }
