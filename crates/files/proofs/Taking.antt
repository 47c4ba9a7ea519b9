-- Amounts taken one by one from a total: all is taken, and no more, just where they come to it. Assumes nothing.
use Rattle.std.proofs.Common.{◌≡◌, ℕ, ◌+◌, ◌-◌, ◌<◌, ◌≤◌, Bool, true, false, cond, eqb, List, [], ◌∷◌, Some, None, Option, sym, subst, refl, ap, ◌∙◌, inl, inr, arith}
use Rattle.std.specs.Bool.{then_some}
use Rattle.std.specs.Option.{option_eq, IfSome}
use Rattle.std.proofs.lemmas.Bool.Decides.{nat_tests, leb_tells}
use Rattle.files.specs.Amounts.{counted_amount, counted_sum}
use Rattle.files.specs.Taking.{taken}
use Rattle.files.specs.declared.tally.Tally.{Tally}

-- the amounts of all contents taken, the first one first
abbrev pub all_taken : Option ℕ → List (List ℕ) → Option ℕ
all_taken o [] = o
all_taken o (c ∷ cs) = all_taken (taken o (counted_amount c)) cs

-- all is taken, and no more
abbrev pub all_spent : Option ℕ → Bool
all_spent left = option_eq eqb left (Some 0)

none_taken : (cs : List (List ℕ)) → all_taken None cs ≡ None
none_taken [] = refl
none_taken (c ∷ cs) = none_taken cs

taken_on : (t a s : ℕ) → a ≤ t → eqb s (t - a) ≡ eqb (a + s) t
taken_on t a s h = grind (arith, nat_tests)

taken_over : (t a s : ℕ) → t < a → false ≡ eqb (a + s) t
taken_over t a s h = grind (arith, nat_tests)

none_left : (t : ℕ) → eqb t 0 ≡ eqb 0 t
none_left t = grind (arith, nat_tests)

pub spent_sum : (t : ℕ) (cs : List (List ℕ)) → all_spent (all_taken (Some t) cs) ≡ eqb (counted_sum cs) t
spent_sum t [] = none_left t
spent_sum t (c ∷ cs) =
    elim (leb_tells (counted_amount c) t) [
      | inl e ↦ ap (λ b. all_spent (all_taken (cond b (Some (t - counted_amount c)) None) cs)) e.0 ∙ spent_sum (t - counted_amount c) cs ∙ taken_on t (counted_amount c) (counted_sum cs) e.1
      | inr e ↦ ap (λ b. all_spent (all_taken (cond b (Some (t - counted_amount c)) None) cs)) e.0 ∙ ap all_spent (none_taken cs) ∙ taken_over t (counted_amount c) (counted_sum cs) e.1
    ]

pub agrees_in : (v : Bool) (t : Tally) (r : Option Tally) (x : Bool) → r ≡ then_some v t → t.agrees ≡ x → IfSome r (λ u. u.agrees ≡ x)
agrees_in true t r x e h = subst (λ o. IfSome o (λ u. u.agrees ≡ x)) (sym e) h
agrees_in false t r x e h = subst (λ o. IfSome o (λ u. u.agrees ≡ x)) (sym e) tt
