-- What each position added to its cover gives, house by house.
use Rattle.std.proofs.Common.{◌≡◌, ℕ, zero, suc, ◌<◌, List, [], ◌∷◌, length, get_or, ℤ, pos, negsuc, ◌+ℤ◌, refl, ap, arith}
use Rattle.std.proofs.lemmas.Int.{ints, by_lt_z}
use Rattle.keeper.specs.Offers.{Lacks, NoneShort, moved, add_each}

pub moved_is : (c : ℕ) (p : ℤ) → (Lacks c p → ⊥) → pos (moved c p) ≡ pos c +ℤ p
moved_is c (pos n) enough = refl
moved_is c (negsuc n) enough = by_lt_z (pos c +ℤ negsuc n) (pos 0) (λ l. absurd (enough l)) (λ g. omega (arith, ints))

pub add_each_length : (cs : List ℕ) (ps : List ℤ) → length (add_each cs ps) ≡ length cs
add_each_length [] ps = refl
add_each_length (c ∷ cs) [] = refl
add_each_length (c ∷ cs) (p ∷ ps) = ap suc (add_each_length cs ps)

pub add_each_at : (cs : List ℕ) (ps : List ℤ) → length ps ≡ length cs → NoneShort cs ps → (h : ℕ) → h < length cs
    → pos (get_or (add_each cs ps) h 0) ≡ pos (get_or cs h 0) +ℤ get_or ps h (pos 0)
add_each_at [] ps e none h l = absurd (omega arith)
add_each_at (c ∷ cs) [] e none h l = absurd (omega arith)
add_each_at (c ∷ cs) (p ∷ ps) e none zero l = moved_is c p (none 0 (omega arith))
add_each_at (c ∷ cs) (p ∷ ps) e none (suc h) l = add_each_at cs ps (omega arith) (λ k b. none (suc k) (omega arith)) h (omega arith)
