-- The zeros in front of the last digit. Assumes nothing.
use Rattle.std.proofs.Common.{◌≡◌, ℕ, ◌+◌, cond, eqb, List, [], ◌∷◌, ◌++◌, refl, ap}
use Rattle.std.specs.List.{prefix_len}
use Rattle.values.specs.Digits.{needless}

pub zeros_in_front : (front : List ℕ) (last : ℕ) → prefix_len (λ d. eqb d 48) front ≡ needless (front ++ last ∷ [])
zeros_in_front [] last = refl
zeros_in_front (d ∷ []) last = refl
zeros_in_front (d ∷ e ∷ ds) last = ap (λ n. cond (eqb d 48) (1 + n) 0) (zeros_in_front (e ∷ ds) last)
