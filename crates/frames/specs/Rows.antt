-- The rows of bytes, cut at each CrLf.
use Rattle.std.specs.Prelude.{◌≡◌, ℕ, Bool, true, cond, not, ◌&&◌, List, [], ◌∷◌, ◌++◌, Option}
use Rattle.std.specs.List.{find, flat_map}
use Rattle.frames.specs.Fixed.{crlf, amount_tag, begins, on_first}

-- the rows that a CrLf ends; what follows the last CrLf is none
abbrev pub ended_rows : List ℕ → List (List ℕ)
ended_rows [] = []
ended_rows (b ∷ []) = []
ended_rows (b ∷ c ∷ t) = cond (begins crlf (b ∷ c ∷ t)) ([] ∷ ended_rows t) (on_first b (ended_rows (c ∷ t)))

-- the row that tells the amount of a content: the first ended one that begins with the amount's tag
abbrev pub amount_row : List ℕ → Option (List ℕ)
amount_row c = find (begins amount_tag) (ended_rows c)

-- no CrLf stands in the bytes
abbrev pub uncut : List ℕ → Bool
uncut [] = true
uncut (b ∷ t) = not (begins crlf (b ∷ t)) && uncut t

abbrev pub all_uncut : List (List ℕ) → Bool
all_uncut [] = true
all_uncut (r ∷ rs) = uncut r && all_uncut rs

-- the bytes are these rows, each ended by CrLf, and a last piece, and CrLf stands nowhere else
abbrev pub AreRows : List ℕ → List (List ℕ) → List ℕ → Type 0
AreRows b rs last = (b ≡ flat_map (λ r. r ++ crlf) rs ++ last) × (all_uncut rs ≡ true) × (uncut last ≡ true)

-- any bytes are their rows and a last piece, and they are so in one way only
abbrev pub RowsLaw : Type 0
RowsLaw = (b : List ℕ) → ((last : List ℕ) × AreRows b (ended_rows b) last) × ((rs : List (List ℕ)) (last : List ℕ) → AreRows b rs last → ended_rows b ≡ rs)
