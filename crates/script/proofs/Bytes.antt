-- A text is known by its length and its bytes.
use Rattle.std.proofs.Common.{◌≡◌, ℕ, suc, List, [], ◌∷◌, length, get_or, refl, arith}

-- the bytes of s from the i-th on are those of w
abbrev pub HasBytes : List ℕ → ℕ → List ℕ → Type 0
HasBytes s i [] = Unit {0}
HasBytes s i (b ∷ w) = (get_or s i 0 ≡ b) × HasBytes s (suc i) w

behind_first : (b : ℕ) (s w : List ℕ) (i : ℕ) → HasBytes (b ∷ s) (suc i) w → HasBytes s i w
behind_first b s [] i h = tt
behind_first b s (c ∷ w) i h = (h.0, behind_first b s w (suc i) h.1)

pub read_off : (s w : List ℕ) → length s ≡ length w → HasBytes s 0 w → s ≡ w
read_off [] [] e h = refl
read_off [] (c ∷ w) e h = absurd (omega arith)
read_off (b ∷ s) [] e h = absurd (omega arith)
read_off (b ∷ s) (c ∷ w) e h = let t : s ≡ w = read_off s w (omega arith) (behind_first b s w 0 h.1) in let f : b ≡ c = h.0 in λ i. f i ∷ t i
