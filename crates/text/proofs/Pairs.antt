-- The neighbours in a list, two by two, as `windows` gives them. Assumes nothing.
use Rattle.std.proofs.Common.{◌≡◌, ℕ, suc, ◌+◌, ◌<◌, ◌≤◌, Bool, true, false, cond, not, ◌||◌, eqb, ltb, List, [], ◌∷◌, length, get_or, take, drop, Some, None, unwrap_or, refl, sym, ap, ◌∙◌, subst, inl, inr, arith}
use Rattle.std.specs.List.{position_or_len, list_any}
use Rattle.std.specs.Slice.Iter.{windows_rest, windows_size, windows_steps}
use Rattle.std.proofs.lemmas.Bool.{and_right, cond-true, cond-false, lt-ltb, le-ltb, ltb-true, ltb-false, cases_Bool}
use Rattle.std.proofs.lemmas.Iterator.{YieldsList}
use Rattle.std.proofs.lemmas.Iterator.Splits.{YieldsList-from_shown_while}
use Rattle.text.specs.Reference.{pair, doubled}
use Rattle.text.specs.Rows.{is_cr_lf, crlf}

abbrev pub pairs : List ℕ → List (List ℕ)
pairs [] = []
pairs (b ∷ []) = []
pairs (b ∷ c ∷ t) = (b ∷ c ∷ []) ∷ pairs (c ∷ t)

pairs_none : (xs : List ℕ) → length xs < 2 → length (pairs xs) ≡ 0
pairs_none [] h = refl
pairs_none (b ∷ []) h = refl
pairs_none (b ∷ c ∷ t) h = absurd (omega arith)

pairs_some : (xs : List ℕ) → 2 ≤ length xs → pairs xs ≡ take 2 xs ∷ pairs (drop 1 xs)
pairs_some [] h = absurd (omega arith)
pairs_some (b ∷ []) h = absurd (omega arith)
pairs_some (b ∷ c ∷ t) h = refl

pub pairs_list : {s : _} (xs : List ℕ) → windows_rest s ≡ xs → windows_size s ≡ 2 → YieldsList windows_steps (λ w. w.now) s (pairs xs)
pairs_list {s} xs e two =
    let all = YieldsList-from_shown_while windows_steps (λ w. w.now) (λ s. pairs (windows_rest s)) (λ s. windows_size s ≡ 2)
    (λ s t p g. pairs_none (windows_rest s) (subst (λ n. length (windows_rest s) < n) p g.1.0))
    (λ s x t p g. (
      g.0 ∙ p,
      pairs_some (windows_rest s) (subst (λ n. n ≤ length (windows_rest s)) p g.1.0)
          ∙ (λ i. (sym (ap (λ n. take n (windows_rest s)) p) ∙ sym g.1.1) i ∷ pairs (sym g.1.2 i)),
    ))
    s two in
    subst (λ xs. YieldsList windows_steps (λ w. w.now) s (pairs xs)) e all

-- a test of two neighbours
abbrev pub ends : List ℕ → Bool
ends w = is_cr_lf (get_or w 0 0) (get_or w 1 0)

one_on : (p l n : ℕ) → suc (cond (ltb p l) p n) ≡ cond (ltb (1 + p) (suc l)) (1 + p) (suc n)
one_on p l n =
    elim (cases_Bool (ltb p l)) [
      | inl e ↦ ap suc (cond-true (ltb p l) p n e) ∙ omega arith ∙ sym (cond-true (ltb (1 + p) (suc l)) (1 + p) (suc n) (lt-ltb _ _ (omega (arith, ltb-true p l e))))
      | inr e ↦ ap suc (cond-false (ltb p l) p n e) ∙ sym (cond-false (ltb (1 + p) (suc l)) (1 + p) (suc n) (le-ltb _ _ (omega (arith, ltb-false p l e))))
    ]

crlf_at : (s : List ℕ) → crlf s ≡ cond (ltb (position_or_len ends (pairs s)) (length (pairs s))) (position_or_len ends (pairs s)) (length s)
crlf_at [] = refl
crlf_at (b ∷ []) = refl
crlf_at (b ∷ c ∷ t) =
    let p = position_or_len ends (pairs (c ∷ t)) in
    let l = length (pairs (c ∷ t)) in
    let n = length (c ∷ t) in
    let ih = crlf_at (c ∷ t) in
    elim (is_cr_lf b c) as (λ v. cond v 0 (suc (crlf (c ∷ t))) ≡ cond (ltb (cond (not v) (1 + p) 0) (suc l)) (cond (not v) (1 + p) 0) (suc n)) [
      | true ↦ sym (cond-true (ltb 0 (suc l)) 0 (suc n) (lt-ltb _ _ (omega arith)))
      | false ↦ ap suc ih ∙ one_on p l n
    ]

either : (b : Bool) (p n : ℕ) → unwrap_or (cond b (Some p) None) n ≡ cond b p n
either true p n = refl
either false p n = refl

pub crlf_found : (s : List ℕ) → unwrap_or (cond (ltb (position_or_len ends (pairs s)) (length (pairs s))) (Some (position_or_len ends (pairs s))) None) (length s) ≡ crlf s
crlf_found s =
    let p = position_or_len ends (pairs s) in
    either (ltb p (length (pairs s))) p (length s) ∙ sym (crlf_at s)

pub doubled_pairs : (s : List ℕ) → list_any (λ w. pair (get_or w 0 0) (get_or w 1 0)) (pairs s) ≡ doubled s
doubled_pairs [] = refl
doubled_pairs (b ∷ []) = let no = and_right (eqb b 47) false refl in ap (λ v. v || false) (sym no)
doubled_pairs (b ∷ c ∷ t) = ap (λ v. pair b c || v) (doubled_pairs (c ∷ t))
