-- Bytes that begin with others. Assumes nothing.
use Rattle.std.proofs.Common.{◌≡◌, ℕ, true, eqb, List, [], ◌∷◌, ◌++◌, length, drop, refl}
use Rattle.std.proofs.lemmas.Bool.{and_parts, and_from, eqb-true, eq-eqb, false≢true}
use Rattle.frames.specs.Fixed.{begins}

pub begins_front : (p s : List ℕ) → begins p s ≡ true → s ≡ p ++ drop (length p) s
begins_front [] s h = refl
begins_front (x ∷ p) [] h = absurd (false≢true h)
begins_front (x ∷ p) (y ∷ s) h =
    let q = and_parts (eqb y x) (begins p s) h in
    let e = eqb-true y x q.0 in
    let f = begins_front p s q.1 in
    λ i. e i ∷ f i

pub begins_append : (p rest : List ℕ) → begins p (p ++ rest) ≡ true
begins_append [] rest = refl
begins_append (x ∷ p) rest = and_from (eqb x x) (begins p (p ++ rest)) (eq-eqb x x refl) (begins_append p rest)
