-- The rows of a text.
use Rattle.std.specs.Prelude.{ℕ, suc, Bool, cond, ◌&&◌, List, [], ◌∷◌, ◌++◌, ◌==◌}
use Rattle.std.specs.List.{flat_map}
use Rattle.text.specs.declared.rows.Rows.{Rows}

-- b and c are the two bytes that end a row
abbrev pub is_cr_lf : ℕ → ℕ → Bool
is_cr_lf b c = b == 13 && c == 10

-- where the first CrLf stands, or the length
abbrev pub crlf : List ℕ → ℕ
crlf [] = 0
crlf (b ∷ []) = 1
crlf (b ∷ c ∷ t) = cond (is_cr_lf b c) 0 (suc (crlf (c ∷ t)))

-- b as the first byte of the first row
abbrev pub on_first : ℕ → List (List ℕ) → List (List ℕ)
on_first b [] = (b ∷ []) ∷ []
on_first b (r ∷ rs) = (b ∷ r) ∷ rs

-- the pieces that CrLf ends; the last one may lack its CrLf
abbrev pub rows_of : List ℕ → List (List ℕ)
rows_of [] = []
rows_of (b ∷ []) = (b ∷ []) ∷ []
rows_of (b ∷ c ∷ t) = cond (is_cr_lf b c) ([] ∷ rows_of t) (on_first b (rows_of (c ∷ t)))

-- the rows written one after another, each ended by CrLf
abbrev pub put : List (List ℕ) → List ℕ
put rs = flat_map (λ r. r ++ 13 ∷ 10 ∷ []) rs

-- the rows that are still to come
abbrev pub rows_left : Rows → List (List ℕ)
rows_left s = rows_of s.rest.now
