-- A written amount is neat and reads as what was written. Assumes nothing.
use Rattle.std.proofs.Common.{◌≡◌, ℕ, zero, suc, ◌+◌, ◌-◌, ◌*◌, ◌/◌, ◌%◌, ◌^◌, ◌<◌, ◌≤◌, Bool, true, eqb, leb, ◌⊎◌, List, [], ◌∷◌, ◌++◌, length, get_or, drop, sym, refl, ap, ◌∙◌, inl, inr, pow-suc, one-add, arith}
use native.Mathlib.Nat.{div-div-eq-div-mul, div-eq_of_lt}
use Rattle.std.proofs.lemmas.List.{length-append, length-drop, drop-append-le}
use Rattle.std.proofs.lemmas.Bool.{and_from, and_parts, cond-true, cond-false, cases_Bool, eqb-true, eqb-false, le-leb}
use Rattle.text.specs.Chars.{belongs, every}
use Rattle.text.specs.declared.class.Class.TheVariants.{Digit}
use Rattle.text.specs.Digits.{number, number_after}
use Rattle.values.specs.Digits.{digits, needless, plain}
use Rattle.values.specs.Amounts.{limit, unit, comma, decimals, whole_digits, amount_text, IsAmount, NeatlyWritten, WritingLaw}
use Rattle.values.proofs.Reading.{reading_law}

-- the digits after what stands above them write the number
read_after : (w n : ℕ) → number_after (n / 10 ^ w) (digits w n) ≡ n
read_after zero n = omega arith
read_after (suc w) n =
    let q : n / 10 ^ suc w ≡ n / 10 ^ w / 10 = ap (λ p. n / p) (pow-suc 10 w) ∙ sym (div-div-eq-div-mul n (10 ^ w) 10) in
    let e : n / 10 ^ suc w * 10 + ((48 + n / 10 ^ w % 10) - 48) ≡ n / 10 ^ w = omega arith in
    ap (λ m. number_after m (digits w n)) e ∙ read_after w n

number_digits : (w n : ℕ) → n < 10 ^ w → number (digits w n) ≡ n
number_digits w n h = ap (λ m. number_after m (digits w n)) (sym (div-eq_of_lt h)) ∙ read_after w n

one_digital : (x : ℕ) → belongs Digit (48 + x % 10) ≡ true
one_digital x = and_from (leb 48 (48 + x % 10)) (leb (48 + x % 10) 57) (le-leb _ _ (omega arith)) (le-leb _ _ (omega arith))

digits_digital : (w n : ℕ) → every (belongs Digit) (digits w n) ≡ true
digits_digital zero n = refl
digits_digital (suc w) n = and_from (belongs Digit (48 + n / 10 ^ w % 10)) (every (belongs Digit) (digits w n)) (one_digital (n / 10 ^ w)) (digits_digital w n)

every_drop : (p : ℕ → Bool) (n : ℕ) (xs : List ℕ) → every p xs ≡ true → every p (drop n xs) ≡ true
every_drop p zero xs h = h
every_drop p (suc n) [] h = refl
every_drop p (suc n) (x ∷ xs) h = every_drop p n xs (and_parts (p x) (every p xs) h).1

-- a zero in front of another digit is left out, and anything else ends the zeros
by_lead : (d e : ℕ) (ds : List ℕ) → ((d ≡ 48) × (plain (d ∷ e ∷ ds) ≡ plain (e ∷ ds))) ⊎ ((d ≡ 48 → ⊥) × (plain (d ∷ e ∷ ds) ≡ d ∷ e ∷ ds))
by_lead d e ds =
    elim (cases_Bool (eqb d 48)) [
      | inl t ↦ inl (eqb-true d 48 t, ap (λ n. drop n (d ∷ e ∷ ds)) (cond-true (eqb d 48) (1 + needless (e ∷ ds)) 0 t ∙ one-add (needless (e ∷ ds))))
      | inr f ↦ inr (eqb-false d 48 f, ap (λ n. drop n (d ∷ e ∷ ds)) (cond-false (eqb d 48) (1 + needless (e ∷ ds)) 0 f))
    ]

plain_number : (ds : List ℕ) → number (plain ds) ≡ number ds
plain_number [] = refl
plain_number (d ∷ []) = refl
plain_number (d ∷ e ∷ ds) =
    elim (by_lead d e ds) [
      | inl t ↦ ap number t.1 ∙ plain_number (e ∷ ds) ∙ ap (λ x. number (x ∷ e ∷ ds)) (sym t.0)
      | inr f ↦ ap number f.1
    ]

plain_some : (ds : List ℕ) → 0 < length ds → 0 < length (plain ds)
plain_some [] h = h
plain_some (d ∷ []) h = h
plain_some (d ∷ e ∷ ds) h =
    elim (by_lead d e ds) [
      | inl t ↦ let l = ap length t.1 in omega (arith, plain_some (e ∷ ds) (omega arith))
      | inr f ↦ let l = ap length f.1 in omega arith
    ]

plain_lead : (ds : List ℕ) → 0 < length ds → get_or (plain ds) 0 0 ≡ 48 → length (plain ds) ≡ 1
plain_lead [] h z = absurd (omega arith)
plain_lead (d ∷ []) h z = refl
plain_lead (d ∷ e ∷ ds) h z =
    elim (by_lead d e ds) [
      | inl t ↦ ap length t.1 ∙ plain_lead (e ∷ ds) (omega arith) (ap (λ xs. get_or xs 0 0) (sym t.1) ∙ z)
      | inr f ↦ absurd (f.0 (ap (λ xs. get_or xs 0 0) (sym f.1) ∙ z))
    ]

pub needless_within : (ds : List ℕ) → needless ds ≤ length ds
needless_within [] = omega arith
needless_within (d ∷ []) = omega arith
needless_within (d ∷ e ∷ ds) =
    let ih = needless_within (e ∷ ds) in
    elim (cases_Bool (eqb d 48)) [
      | inl t ↦ let c = cond-true (eqb d 48) (1 + needless (e ∷ ds)) 0 t in omega arith
      | inr f ↦ let c = cond-false (eqb d 48) (1 + needless (e ∷ ds)) 0 f in omega arith
    ]

neat : (n : ℕ) → NeatlyWritten (amount_text n)
neat n = record {
  front = plain (digits whole_digits (n / unit));
  back = digits decimals (n % unit);
  written = refl;
  digital = (every_drop (belongs Digit) (needless (digits whole_digits (n / unit))) (digits whole_digits (n / unit)) (digits_digital whole_digits (n / unit)), digits_digital decimals (n % unit));
  sizes = (plain_some (digits whole_digits (n / unit)) (omega arith), refl);
  lead = plain_lead (digits whole_digits (n / unit)) (omega arith);
}

worth : (n : ℕ) → n ≤ limit → IsAmount (amount_text n) n
unfolding neat
worth n h =
    let a = neat n in
    let l : length a.front ≤ 8 = rw (length-drop (needless (digits whole_digits (n / unit))) (digits whole_digits (n / unit))) (omega arith) in
    let w : number a.front ≡ n / unit = plain_number (digits whole_digits (n / unit)) ∙ number_digits whole_digits (n / unit) (omega arith) in
    let p : number a.back ≡ n % unit = number_digits decimals (n % unit) (omega arith) in
    record {
      front = a.front;
      back = a.back;
      written = refl;
      digital = a.digital;
      sizes = (a.sizes.0, omega arith, omega (arith, length-append a.front (comma ∷ a.back)));
      worth = omega arith;
    }

pub writing_law : WritingLaw
writing_law n h = (neat n, (reading_law (amount_text n) n).1 (worth n h))

-- the bytes from the first needed digit on
pub laid_out : (n s : ℕ) → s ≡ needless (digits whole_digits (n / unit)) → drop s (digits whole_digits (n / unit) ++ comma ∷ digits decimals (n % unit)) ≡ amount_text n
laid_out n s e =
    let ds = digits whole_digits (n / unit) in
    ap (λ k. drop k (ds ++ comma ∷ digits decimals (n % unit))) e ∙ drop-append-le (needless ds) ds (comma ∷ digits decimals (n % unit)) (needless_within ds)
