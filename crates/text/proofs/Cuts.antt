-- How the first row is cut from a text. Assumes nothing.
use Rattle.std.proofs.Common.{◌≡◌, ℕ, suc, ◌-◌, ◌<◌, ◌≤◌, Bool, true, false, cond, ◌&&◌, ◌||◌, eqb, List, [], ◌∷◌, length, get_or, take, drop, sym, refl, ap, ◌∙◌, inl, inr, arith}
use Rattle.std.proofs.lemmas.List.{length-drop}
use Rattle.std.proofs.lemmas.Bool.{cond-true, cond-false, and_parts, eqb-true, cases_Bool, false≢true}
use Rattle.text.specs.Chars.{digit, capital}
use Rattle.text.specs.Tags.{is_tag}
use Rattle.text.specs.Rows.{is_cr_lf, crlf, on_first, rows_of}

pub crlf_cons : (b : ℕ) (t : List ℕ) → is_cr_lf b (get_or t 0 0) ≡ false → crlf (b ∷ t) ≡ suc (crlf t)
crlf_cons b [] h = refl
crlf_cons b (c ∷ t) h = cond-false (is_cr_lf b c) 0 (suc (crlf (c ∷ t))) h

pub crlf_here : (b : ℕ) (t : List ℕ) → is_cr_lf b (get_or t 0 0) ≡ true → crlf (b ∷ t) ≡ 0
crlf_here b [] h = absurd (false≢true (and_parts (eqb b 13) (eqb 0 10) h).1)
crlf_here b (c ∷ t) h = cond-true (is_cr_lf b c) 0 (suc (crlf (c ∷ t))) h

pub crlf_le : (t : List ℕ) → crlf t ≤ length t
crlf_le [] = omega arith
crlf_le (b ∷ []) = omega arith
crlf_le (b ∷ c ∷ t) =
    let ih = crlf_le (c ∷ t) in
    elim (is_cr_lf b c) as (λ v. cond v 0 (suc (crlf (c ∷ t))) ≤ suc (suc (length t))) [ true ↦ omega arith | false ↦ omega arith ]

-- the first row, and the rows of what is left
pub rows_cut : (t : List ℕ) → 0 < length t → rows_of t ≡ take (crlf t) t ∷ rows_of (drop 2 (drop (crlf t) t))
rows_cut [] h = absurd (omega arith)
rows_cut (b ∷ []) h = refl
rows_cut (b ∷ c ∷ t) h =
    let ih = rows_cut (c ∷ t) (omega arith) in
    elim (is_cr_lf b c) as (λ v. cond v ([] ∷ rows_of t) (on_first b (rows_of (c ∷ t))) ≡ take (cond v 0 (suc (crlf (c ∷ t)))) (b ∷ c ∷ t) ∷ rows_of (drop 2 (drop (cond v 0 (suc (crlf (c ∷ t)))) (b ∷ c ∷ t)))) [
      | true ↦ refl
      | false ↦ ap (on_first b) ih
    ]

pub row_next : (t row after rest : List ℕ) (k : ℕ) → 0 < length t → k ≡ crlf t → row ≡ take k t → after ≡ drop k t → rest ≡ drop 2 after → rows_of t ≡ row ∷ rows_of rest
row_next t row after rest k h e f g r =
    let x : row ≡ take (crlf t) t = f ∙ ap (λ n. take n t) e in
    let y : rest ≡ drop 2 (drop (crlf t) t) = r ∙ ap (drop 2) (g ∙ ap (λ n. drop n t) e) in
    rows_cut t h ∙ (λ i. sym x i ∷ rows_of (sym y i))

pub row_shorter : (t after rest : List ℕ) (k : ℕ) → 0 < length t → after ≡ drop k t → rest ≡ drop 2 after → length rest < length t
row_shorter t after rest k h e f =
    let x : length after ≡ length t - k = ap length e ∙ length-drop k t in
    let y : length rest ≡ length after - 2 = ap length f ∙ length-drop 2 after in
    omega arith

-- the first row, and a test of its bytes one by one that CR fails
abbrev first : List ℕ → List ℕ
first t = take (crlf t) t

peel : (P Q : List ℕ → Bool) (f : ℕ → Bool → Bool) → P [] ≡ false → ((b : ℕ) (t : List ℕ) → P (b ∷ t) ≡ f b (Q t)) → ((v : Bool) → f 13 v ≡ false)
    → ((t : List ℕ) → Q (first t) ≡ Q t) → (t : List ℕ) → P (first t) ≡ P t
peel P Q f z s n q [] = refl
peel P Q f z s n q (b ∷ t) =
    elim (cases_Bool (is_cr_lf b (get_or t 0 0))) [
      | inl e ↦
          let x : b ≡ 13 = eqb-true b 13 (and_parts (eqb b 13) (eqb (get_or t 0 0) 10) e).0 in
          ap P (ap (λ k. take k (b ∷ t)) (crlf_here b t e)) ∙ z ∙ sym (s b t ∙ ap (λ m. f m (Q t)) x ∙ n (Q t))
      | inr e ↦ ap P (ap (λ k. take k (b ∷ t)) (crlf_cons b t e)) ∙ s b (first t) ∙ ap (f b) (q t) ∙ sym (s b t)
    ]

-- whether a text begins with a tag is told by its first row
pub tag_first : (t : List ℕ) → is_tag (first t) ≡ is_tag t
tag_first =
    let last : (t : List ℕ) → eqb (get_or (first t) 0 0) 58 ≡ eqb (get_or t 0 0) 58 =
    peel (λ t. eqb (get_or t 0 0) 58) (λ t. true) (λ b v. eqb b 58) refl (λ b t. refl) (λ v. refl) (λ t. refl) in
    let letter : (t : List ℕ) → (eqb (get_or (first t) 0 0) 58 || (capital (get_or (first t) 0 0) && eqb (get_or (first t) 1 0) 58)) ≡ (eqb (get_or t 0 0) 58 || (capital (get_or t 0 0) && eqb (get_or t 1 0) 58)) =
    peel (λ t. eqb (get_or t 0 0) 58 || (capital (get_or t 0 0) && eqb (get_or t 1 0) 58)) (λ t. eqb (get_or t 0 0) 58) (λ b v. eqb b 58 || (capital b && v)) refl (λ b t. refl) (λ v. refl) last in
    let two = peel (λ t. digit (get_or t 0 0) && (eqb (get_or t 1 0) 58 || (capital (get_or t 1 0) && eqb (get_or t 2 0) 58)))
    (λ t. eqb (get_or t 0 0) 58 || (capital (get_or t 0 0) && eqb (get_or t 1 0) 58)) (λ b v. digit b && v) refl (λ b t. refl) (λ v. refl) letter in
    let one = peel (λ t. digit (get_or t 0 0) && (digit (get_or t 1 0) && (eqb (get_or t 2 0) 58 || (capital (get_or t 2 0) && eqb (get_or t 3 0) 58))))
    (λ t. digit (get_or t 0 0) && (eqb (get_or t 1 0) 58 || (capital (get_or t 1 0) && eqb (get_or t 2 0) 58))) (λ b v. digit b && v) refl (λ b t. refl) (λ v. refl) two in
    peel is_tag (λ t. digit (get_or t 0 0) && (digit (get_or t 1 0) && (eqb (get_or t 2 0) 58 || (capital (get_or t 2 0) && eqb (get_or t 3 0) 58))))
    (λ b v. eqb b 58 && v) refl (λ b t. refl) (λ v. refl) one
