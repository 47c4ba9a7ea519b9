-- The opening of a book, of balances or of pledges.
use Rattle.std.specs.Prelude.{ℕ, ◌<◌, ◌≤◌, List, length, Some, None, Option, slice_index}
use Rattle.keeper.specs.Covers.{most_houses}
use Rattle.books.specs.declared.opening.OpenDenial.{OpenDenial}
use Rattle.books.specs.declared.opening.OpenDenial.TheVariants.{BreaksRule, NoMemory}

-- a house opens with a sum of at most so many cents
abbrev pub most_opening : ℕ
most_opening = 1000000000000

-- a book opens with 1 to so many sittings
abbrev pub most_sittings : ℕ
most_sittings = 255

abbrev pub AllSmall : List ℕ → Type 0
AllSmall sums = (k : ℕ) → k < length sums → slice_index sums k ≤ most_opening

-- the rules of opening: how many houses, how many sittings, and how much each house has
pub record Openable (sums : List ℕ) (sittings : ℕ) : Type 0 where
  pub some : 1 ≤ length sums
  pub few : length sums ≤ most_houses
  pub sits : 1 ≤ sittings
  pub in_time : sittings ≤ most_sittings
  pub small : AllSmall sums

-- Why a book does not open: BreaksRule exactly where a rule is broken, and NoMemory only where none is.
abbrev pub OpenDenied : List ℕ → ℕ → OpenDenial → Type 0
OpenDenied sums sittings BreaksRule = Openable sums sittings → ⊥
OpenDenied sums sittings NoMemory = Openable sums sittings

-- the number of each denial; want of memory has none
abbrev pub open_number : OpenDenial → Option ℕ
open_number BreaksRule = Some 20
open_number NoMemory = None
