-- An amount as it is written, and its value. Assumes nothing.
use Rattle.std.proofs.Common.{◌≡◌, ℕ, suc, ◌+◌, ◌*◌, ◌<◌, ◌≤◌, Bool, true, false, cond, eqb, List, [], ◌∷◌, ◌++◌, length, get_or, take, drop, Some, None, sym, refl, ap, ◌∙◌, inl, inr, one-add, arith}
use Rattle.std.proofs.lemmas.List.{take-append-drop, take_at, drop_at, drop_more, length-append}
use Rattle.std.proofs.lemmas.Bool.{cond-true, cond-false, and_parts, eqb-true, cases_Bool, true≢false}
use Rattle.std.proofs.lemmas.Bool.Decides.{nat_tests, eqb_tells}
use Rattle.text.specs.Chars.{belongs, every, place}
use Rattle.text.specs.declared.class.Class.TheVariants.{Digit}
use Rattle.text.specs.Digits.{number}
use Rattle.values.specs.Amounts.{comma, unit, part_cents, whole, part, amount_formed, cents, amount_of, IsAmount, ReadingLaw}

not_comma : (b : ℕ) → belongs Digit b ≡ true → eqb b comma ≡ false
not_comma b h = elim (eqb_tells b comma) [ inl e ↦ absurd (true≢false (sym h ∙ ap (belongs Digit) e.1)) | inr e ↦ e.0 ]

place_after : (w p : List ℕ) → every (belongs Digit) w ≡ true → place comma (w ++ comma ∷ p) ≡ length w
place_after [] p h = refl
place_after (b ∷ w) p h =
    let q = and_parts (belongs Digit b) (every (belongs Digit) w) h in
    let ih = place_after w p q.1 in
    cond-false (eqb b comma) 0 (1 + place comma (w ++ comma ∷ p)) (not_comma b q.0) ∙ omega arith

at_by : (x : ℕ) (xs : List ℕ) → (place comma xs < length xs → get_or xs (place comma xs) 0 ≡ comma) → (v : Bool) → eqb x comma ≡ v → cond v 0 (1 + place comma xs) < suc (length xs) → get_or (x ∷ xs) (cond v 0 (1 + place comma xs)) 0 ≡ comma
at_by x xs ih true e h = eqb-true x comma e
at_by x xs ih false e h = ap (λ n. get_or (x ∷ xs) n 0) (one-add (place comma xs)) ∙ ih (omega arith)

at_place : (s : List ℕ) → place comma s < length s → get_or s (place comma s) 0 ≡ comma
at_place [] h = absurd (omega arith)
at_place (x ∷ xs) h = at_by x xs (at_place xs) (eqb x comma) refl h

formed_is : (s : List ℕ) (v : ℕ) → IsAmount s v → amount_of s ≡ Some v
formed_is s v a =
    let w = a.front in
    let p = a.back in
    let k : place comma s ≡ length w = ap (place comma) a.written ∙ place_after w p a.digital.0 in
    let ew : whole s ≡ w = (λ i. take (k i) (a.written i)) ∙ take_at w (comma ∷ p) (length w) refl in
    let ep : part s ≡ p = (λ i. drop 1 (drop (k i) (a.written i))) ∙ ap (drop 1) (drop_at w (comma ∷ p) (length w) refl) in
    let l : length s ≡ length w + suc (length p) = ap length a.written ∙ length-append w (comma ∷ p) in
    let lw = ap length ew in
    let lp = ap length ep in
    let dw : every (belongs Digit) (whole s) ≡ true = ap (every (belongs Digit)) ew ∙ a.digital.0 in
    let dp : every (belongs Digit) (part s) ≡ true = ap (every (belongs Digit)) ep ∙ a.digital.1 in
    let sz = a.sizes in
    let f : amount_formed s ≡ true = grind (arith, nat_tests) in
    cond-true (amount_formed s) (Some (cents s)) None f ∙ (λ i. Some (number (ew i) * unit + part_cents (ep i))) ∙ ap Some (sym a.worth)

is_formed : (s : List ℕ) (v : ℕ) → amount_of s ≡ Some v → IsAmount s v
is_formed s v h =
    elim (cases_Bool (amount_formed s)) [
      | inl e ↦
          let lt : place comma s < length s = grind (arith, nat_tests) in
          let w : 0 < length (whole s) = grind (arith, nat_tests) in
          let p : length (part s) ≤ 2 = grind (arith, nat_tests) in
          let l : length s ≤ 15 = grind (arith, nat_tests) in
          let dw : every (belongs Digit) (whole s) ≡ true = grind (arith, nat_tests) in
          let dp : every (belongs Digit) (part s) ≡ true = grind (arith, nat_tests) in
          let step = drop_more s (place comma s) 0 lt in
          let from : drop (place comma s) s ≡ comma ∷ part s = step ∙ (λ i. at_place s lt i ∷ ap (drop 1) (sym step) i) in
          let q : Some (cents s) ≡ Some v = sym (cond-true (amount_formed s) (Some (cents s)) None e) ∙ h in
          record {
            front = whole s;
            back = part s;
            written = sym (take-append-drop (place comma s) s) ∙ ap (λ u. take (place comma s) s ++ u) from;
            digital = (dw, dp);
            sizes = (w, p, l);
            worth = cc;
          }
      | inr e ↦
          let q : None ≡ Some v = sym (cond-false (amount_formed s) (Some (cents s)) None e) ∙ h in
          let z : ◌≡◌ {A = ℕ} 0 1 = cc in absurd (omega arith)
    ]

pub reading_law : ReadingLaw
reading_law s v = (is_formed s v, formed_is s v)
