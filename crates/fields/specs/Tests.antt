-- A closure that tests rows.
use Rattle.std.specs.Prelude.{◌≡◌, ℕ, Bool, List}
use Rattle.std.specs.Fn.{Shared}
use denote.Ref.{Bor}

-- each call of the closure, at a row, answers what the test says
abbrev pub Tests : {F : Type 0} → Shared F (Bor (List ℕ) × Unit {0}) Bool → (List ℕ → Bool) → F → Type 0
Tests g test f = (row : Bor (List ℕ)) (b : Bool) → g.post f (row, tt) b → b ≡ test row.now

-- the same, at a row and its number
abbrev pub TestsNumbered : {F : Type 0} → Shared F (ℕ × (Bor (List ℕ) × Unit {0})) Bool → (ℕ → List ℕ → Bool) → F → Type 0
TestsNumbered g test f = (n : ℕ) (row : Bor (List ℕ)) (b : Bool) → g.post f (n, (row, tt)) b → b ≡ test n row.now
