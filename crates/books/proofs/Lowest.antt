-- The first house, in the order of places, whose debit is above its cover.
use Rattle.std.proofs.Common.{◌≡◌, ℕ, ◌<◌, ◌≤◌, List, [], ◌∷◌, Some, None, Option, MatchOption, length, get_or, map, ℤ, pos, sym, ap, subst, ◌∙◌, arith}
use Rattle.std.specs.List.{AllWithin, HoldsAt, zip}
use Rattle.std.proofs.lemmas.List.{get_or-map, get_or_default, length-map}
use Rattle.std.proofs.lemmas.Slice.Zip.{get_or-zip, length-zip}
use Rattle.std.proofs.Math.Nat.{min-eq_left}
use Rattle.keeper.specs.Offers.{Lacks, NoneShort, WithinLimit, AllWithinLimit}
use Rattle.books.specs.Naming.{IsShort, Lowest}

-- the house of an account is short under a position
abbrev pub Short : {A : Type 0} → (A → ℕ) → A × ℤ → Type 0
Short cover (a, p) = Lacks (cover a) p

module _ {A : Type 0} (cover : A → ℕ) (accounts : List A) (ps : List ℤ) (long : length ps ≡ length accounts) where
  pairs : length (zip accounts ps) ≡ length accounts
  pairs =
      let l = length-zip accounts ps in
      let m = min-eq_left {n = length accounts} {m = length ps} (omega arith) in
      omega arith

  same : (k : ℕ) (d : A × ℤ) → k < length accounts → Lacks (get_or (map cover accounts) k 0) (get_or ps k (pos 0)) ≡ Short cover (get_or (zip accounts ps) k d)
  same k d h =
      ap (λ c. Lacks c (get_or ps k (pos 0))) (get_or-map cover accounts k d.0 0 h) ∙ ap (Lacks (cover (get_or accounts k d.0))) (get_or_default ps k (pos 0) d.1 (omega arith))
      ∙ ap (Short cover) (sym (get_or-zip accounts ps k d h (omega arith)))

  pub within : AllWithinLimit ps → (k : ℕ) (x : A × ℤ) → k < length (zip accounts ps) → x ≡ get_or (zip accounts ps) k x → WithinLimit x.1
  within w k x h e =
      let n = pairs in
      let z = ap (λ (y : A × ℤ). y.1) (e ∙ get_or-zip accounts ps k x (omega arith) (omega arith)) ∙ get_or_default ps k x.1 (pos 0) (omega arith) in
      subst WithinLimit (sym z) (w k (omega arith))

  -- some pair
  any : (xs : List A) (k : ℕ) → k < length xs → A × ℤ
  any [] k h = absurd (omega arith)
  any (x ∷ xs) k h = (x, pos 0)

  none_below : (n : ℕ) → n ≤ length accounts → AllWithin (λ x. Short cover x → ⊥) (zip accounts ps) 0 n → (k : ℕ) → k < n
      → Lacks (get_or (map cover accounts) k 0) (get_or ps k (pos 0)) → ⊥
  none_below n e all k h lacks =
      let d = any accounts k (omega arith) in
      all k d (omega arith) h (subst (λ (X : Type 0). X) (same k d (omega arith)) lacks)

  pub lowest : (r : Option ℕ)
      → MatchOption r (AllWithin (λ x. Short cover x → ⊥) (zip accounts ps) 0 (length (zip accounts ps)))
      (λ i. (i < length (zip accounts ps)) × HoldsAt (Short cover) (zip accounts ps) i × AllWithin (λ x. Short cover x → ⊥) (zip accounts ps) 0 i)
      → MatchOption r (NoneShort (map cover accounts) ps) (λ place. IsShort (map cover accounts) ps place × Lowest (map cover accounts) ps place)
  lowest None all = λ k h. let n = length-map accounts cover in let e = pairs in none_below (length (zip accounts ps)) (omega arith) all k (omega arith)
  lowest (Some i) (here, short, before) =
      let n = length-map accounts cover in
      let e = pairs in
      let d = any accounts i (omega arith) in
      let s : IsShort (map cover accounts) ps i = record {
        here = omega arith;
        lacks = subst (λ (X : Type 0). X) (sym (same i d (omega arith))) (short d);
      } in
      (s, record { short = s; first = none_below i (omega arith) before })
