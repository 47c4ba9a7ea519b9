-- Rows of count, currency and total, read and written. Assumes nothing.
use Rattle.std.proofs.Common.{◌≡◌, ℕ, suc, ◌<◌, ◌≤◌, Bool, true, false, cond, ◌&&◌, leb, List, [], ◌∷◌, ◌++◌, length, take, drop, Some, None, Option, sym, refl, ap, ◌∙◌, inl, inr, arith}
use Rattle.std.proofs.lemmas.Slice.Eq.{bytes_eq-Decides}
use Rattle.std.proofs.lemmas.List.{take-append-drop}
use Rattle.std.proofs.lemmas.Bool.{cond-true, cond-false, and_parts, and_from, leb-true, cases_Bool}
use Rattle.std.proofs.lemmas.Bool.Decides.{nat_tests}
use Rattle.std.proofs.Math.Seq.{take-append_seam, drop-append_seam}
use Rattle.std.specs.Str.{bytes_eq}
use Rattle.text.specs.Chars.{belongs, every, leading}
use Rattle.text.specs.declared.class.Class.TheVariants.{Digit, Capital}
use Rattle.values.specs.Amounts.{amount_of}
use Rattle.text.specs.Digits.{number}
use Rattle.values.specs.declared.currency.Currency.{Currency}
use Rattle.files.specs.declared.control.Control.{Control}
use Rattle.files.specs.Stated.{digits_in_front, count_of, pairing, stated_of, IsStated, StatedLaw}

front_by : (p : ℕ → Bool) (b : ℕ) (t : List ℕ) (v : Bool) → p b ≡ v → every p (take (leading p t) t) ≡ true → every p (take (cond v (suc (leading p t)) 0) (b ∷ t)) ≡ true
front_by p b t true e ih = and_from (p b) (every p (take (leading p t) t)) e ih
front_by p b t false e ih = refl

pub front_passes : (p : ℕ → Bool) (t : List ℕ) → every p (take (leading p t) t) ≡ true
front_passes p [] = refl
front_passes p (b ∷ t) = front_by p b t (p b) refl (front_passes p t)

front_over : (p : ℕ → Bool) (ds u : List ℕ) → every p ds ≡ true → leading p u ≡ 0 → leading p (ds ++ u) ≡ length ds
front_over p [] u h z = z
front_over p (d ∷ ds) u h z =
    let q = and_parts (p d) (every p ds) h in
    cond-true (p d) _ _ q.0 ∙ ap suc (front_over p ds u q.1 z)

no_digit : (x : ℕ) → belongs Capital x ≡ true → belongs Digit x ≡ false
no_digit x h =
    let k : 65 ≤ x = leb-true 65 x (and_parts (leb 65 x) (leb x 90) h).0 in
    grind (arith, nat_tests)

no_digit_first : (ls a : List ℕ) → 0 < length ls → every (belongs Capital) ls ≡ true → leading (belongs Digit) (ls ++ a) ≡ 0
no_digit_first [] a l h = absurd (omega arith)
no_digit_first (x ∷ ls) a l h = cond-false (belongs Digit x) _ _ (no_digit x (and_parts (belongs Capital x) (every (belongs Capital) ls) h).0)

paired : (o p : Option ℕ) (c : Control) → pairing o p ≡ Some c → (o ≡ Some c.count) × (p ≡ Some c.total)
paired None p c e = cc
paired (Some n) None c e = cc
paired (Some n) (Some t) c e =
    let k : ◌≡◌ {A = Control} (record { count = n; total = t }) c = cc in
    (ap (λ x. Some x.count) k, ap (λ x. Some x.total) k)

counted_digits : (ds : List ℕ) (n : ℕ) → count_of ds ≡ Some n → (1 ≤ length ds) × (length ds ≤ 3) × (n ≡ number ds)
counted_digits ds n e =
    elim (cases_Bool (leb 1 (length ds) && leb (length ds) 3)) [
      | inl h ↦
          let q = and_parts (leb 1 (length ds)) (leb (length ds) 3) h in
          let k : Some (number ds) ≡ Some n = sym (cond-true (leb 1 (length ds) && leb (length ds) 3) _ _ h) ∙ e in
          let m : n ≡ number ds = cc in
          (leb-true _ _ q.0, leb-true _ _ q.1, m)
      | inr h ↦
          let k : None ≡ Some n = sym (cond-false (leb 1 (length ds) && leb (length ds) 3) _ _ h) ∙ e in
          cc
    ]

reads : (r : List ℕ) (m : Currency) (c : Control) → stated_of r m ≡ Some c → IsStated r m c
reads r m c e =
    let n : ℕ = digits_in_front r in
    let ls : List ℕ = m.letters in
    let u : List ℕ = drop (digits_in_front r) r in
    let test : Bool = bytes_eq (take (length m.letters) (drop (digits_in_front r) r)) m.letters in
    elim (cases_Bool (bytes_eq (take (length m.letters) (drop (digits_in_front r) r)) m.letters)) [
      | inl h ↦
          let k = paired (count_of (take n r)) (amount_of (drop (length ls) u)) c (sym (cond-true test _ _ h) ∙ e) in
          let q = counted_digits (take n r) c.count k.0 in
          let letters : take (length ls) u ≡ ls = (bytes_eq-Decides (take (length ls) u) ls).0 h in
          let cut : u ≡ ls ++ drop (length ls) u = sym (take-append-drop (length ls) u) ∙ ap (λ x. x ++ drop (length ls) u) letters in
          record {
            digits = take n r;
            amount = drop (length ls) u;
            written = sym (take-append-drop n r) ∙ ap (λ x. take n r ++ x) cut;
            digital = front_passes (belongs Digit) r;
            sizes = (q.0, q.1);
            count = q.2;
            total = k.1;
          }
      | inr h ↦
          let k : None ≡ Some c = sym (cond-false test _ _ h) ∙ e in
          cc
    ]

is_read : (m : Currency) (c : Control) (ds a : List ℕ) → 0 < length m.letters → every (belongs Digit) ds ≡ true → 1 ≤ length ds → length ds ≤ 3 → c.count ≡ number ds → amount_of a ≡ Some c.total
    → stated_of (ds ++ (m.letters ++ a)) m ≡ Some c
is_read m c ds a l d s f n t =
    let ls : List ℕ = m.letters in
    let r : List ℕ = ds ++ (m.letters ++ a) in
    let front : digits_in_front r ≡ length ds = front_over (belongs Digit) ds (ls ++ a) d (no_digit_first ls a l m.capital) in
    let taken : take (digits_in_front r) r ≡ ds = ap (λ k. take k r) front ∙ take-append_seam ds (ls ++ a) in
    let rest : drop (digits_in_front r) r ≡ ls ++ a = ap (λ k. drop k r) front ∙ drop-append_seam ds (ls ++ a) in
    let same : bytes_eq (take (length ls) (drop (digits_in_front r) r)) ls ≡ true = (bytes_eq-Decides _ ls).1 (ap (take (length ls)) rest ∙ take-append_seam ls a) in
    let count : count_of (take (digits_in_front r) r) ≡ Some c.count = ap count_of taken ∙ cond-true (leb 1 (length ds) && leb (length ds) 3) _ _ (grind (arith, nat_tests)) ∙ ap (λ x. Some x) (sym n) in
    let total : amount_of (drop (length ls) (drop (digits_in_front r) r)) ≡ Some c.total = ap (λ x. amount_of (drop (length ls) x)) rest ∙ ap amount_of (drop-append_seam ls a) ∙ t in
    cond-true (bytes_eq (take (length ls) (drop (digits_in_front r) r)) ls) _ _ same ∙ (λ i. pairing (count i) (total i))

pub stated_law : StatedLaw
stated_law r m c l = (reads r m c, λ s. ap (λ x. stated_of x m) s.written ∙ is_read m c s.digits s.amount l s.digital s.sizes.0 s.sizes.1 s.count s.total)
