-- Fields of several rows: the first row that fails a check.
use Rattle.std.specs.Prelude.{ℕ, ◌+◌, Bool, cond, not, ◌&&◌, ◌||◌, List, [], ◌∷◌, length, Some, None, Option, ◌==◌, nat_le, nat_lt, slice_index}

-- the most characters of a row
abbrev pub widest : ℕ
widest = 35

-- a row that is one too many, empty or too long
abbrev pub bad_line : ℕ → ℕ → List ℕ → Bool
bad_line most n r = nat_lt most n || not (nat_le 1 (length r) && nat_le (length r) widest)

-- a row that is / and no account, or an account too long
abbrev pub bad_account : List ℕ → Bool
bad_account r = not (nat_le 2 (length r) && nat_le (length r) widest)

abbrev pub slash : List ℕ → Bool
slash r = slice_index r 0 == 47

-- an account in the first row, and in each other a line
abbrev pub bad_with_account : ℕ → ℕ → List ℕ → Bool
bad_with_account most n r = cond (n == 1) (bad_account r) (bad_line most n r)

-- a row after the first that begins with a slash
abbrev pub later_slash : ℕ → List ℕ → Bool
later_slash n r = nat_lt 1 n && slash r

-- the number of the first row that fails, where the first of them is row n
abbrev pub first_row : (ℕ → List ℕ → Bool) → ℕ → List (List ℕ) → Option ℕ
first_row bad n [] = None
first_row bad n (r ∷ rs) = cond (bad n r) (Some n) (first_row bad (n + 1) rs)
