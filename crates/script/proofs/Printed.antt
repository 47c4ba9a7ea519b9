-- What is written in the usual ways is read back.
use Rattle.std.proofs.Common.{◌≡◌, ℕ, zero, suc, ◌+◌, ◌*◌, ◌/◌, ◌%◌, ◌^◌, ◌<◌, ◌≤◌, Bool, true, false, cond, not, eqb, ltb, leb, List, [], ◌∷◌, length, ℤ, pos, negsuc, neg_ℤ, Some, Ok, Err, decimal, Result, refl, ap, ◌∙◌, mod-lt, arith, lit<, rules}
use lib.Signed.{mag}
use native.Mathlib.Nat.{div-add-mod}
use Rattle.std.specs.List.{AllByRecursion}
use Rattle.std.specs.Fmt.{signed_decimal}
use Rattle.std.proofs.lemmas.Fmt.{digits_decimal, digits_value-decimal, decimal_nonempty}
use Rattle.std.proofs.lemmas.Str.Parse.{IsNumeralModel, numerals_by_fold}
use Rattle.std.proofs.lemmas.Bool.{and_parts, and_from, not-true, cond-true, cond-false, lt-ltb, le-leb}
use Rattle.std.proofs.lemmas.Bool.Decides.{nat_tests}
use Rattle.text.specs.Chars.{digit, every}
use Rattle.text.specs.Digits.{number_after}
use Rattle.script.specs.declared.command.LineError.{LineError}
use Rattle.script.specs.declared.command.LineError.TheVariants.{BadNumber}
use Rattle.script.specs.Laws.{hex_char, in_hex, SpellingLaw, NumberLaw, LanguageLaw}
use Rattle.script.specs.Numbers.{is_number, number_of, plus, minus, signed_of}
use Rattle.script.specs.Outcomes.{and_then, in_front}
use Rattle.script.specs.Spelling.{backslash, hex_digit, paired, escaped, spelled}
use Rattle.script.specs.Words.{lacks}
use Rattle.script.proofs.Cuts.{words_law}

-- any byte but a backslash stands for itself
plain : (b : ℕ) (t : List ℕ) → eqb b backslash ≡ false → spelled (b ∷ t) ≡ in_front b (spelled t)
plain b [] e = cond-false (eqb b backslash) _ _ e
plain b (h ∷ []) e = cond-false (eqb b backslash) _ _ e
plain b (h ∷ l ∷ t) e = cond-false (eqb b backslash) _ _ e

plain_word : (w : List ℕ) → lacks backslash w ≡ true → spelled w ≡ Ok w
plain_word [] h = refl
plain_word (b ∷ w) h =
    let p = and_parts (not (eqb b backslash)) (lacks backslash w) h in
    plain b w (not-true _ p.0) ∙ ap (in_front b) (plain_word w p.1)

hex_back : (d : ℕ) → d < 16 → hex_digit (hex_char d) ≡ Some d
hex_back d h = grind (arith, nat_tests)

hex_word : (bs : List ℕ) → AllByRecursion (λ b. b < 256) bs → spelled (in_hex bs) ≡ Ok bs
hex_word [] a = refl
hex_word (b ∷ bs) a =
    let q : 16 * (b / 16) + b % 16 ≡ b = div-add-mod b 16 in
    let m : b % 16 < 16 = mod-lt b (lit< tt) in
    let small : b < 256 = a.0 in
    let v : paired (hex_digit (hex_char (b / 16))) (hex_digit (hex_char (b % 16))) ≡ Some b = (λ i. paired (hex_back (b / 16) (omega arith) i) (hex_back (b % 16) m i)) ∙ ap Some (omega arith) in
    ap (λ o. escaped o (spelled (in_hex bs))) v ∙ ap (in_front b) (hex_word bs a.1)

spelling_law : SpellingLaw
spelling_law = record { plain = plain_word; any = hex_word }

own : IsNumeralModel (λ ds. every digit ds ≡ true) (number_after 0)
own = numerals_by_fold _ (search rules) number_after (search rules)

number_is : (w : List ℕ) (n : ℕ) → every digit w ≡ true → 0 < length w → number_after 0 w ≡ n → n < 2 ^ 64 → number_of w ≡ Ok n
number_is w n d s v h =
    let i : is_number w ≡ true = and_from _ _ (lt-ltb _ _ s) (and_from _ _ d (lt-ltb _ _ (omega arith))) in
    cond-true (is_number w) (Ok (number_after 0 w)) (Err BadNumber) i ∙ ap Ok v

number_back : (n : ℕ) → n < 2 ^ 64 → number_of (decimal n) ≡ Ok n
number_back n h = number_is (decimal n) n (digits_decimal own n h) (decimal_nonempty n h) (digits_value-decimal own n h) h

number_bounded : (w : List ℕ) (n : ℕ) → number_of w ≡ Ok n → n < 2 ^ 64
number_bounded w n e = grind (arith, nat_tests)

not_minus : (w : List ℕ) → every digit w ≡ true → 0 < length w → signed_of w ≡ and_then (number_of w) plus
not_minus [] d s = absurd (omega arith)
not_minus (b ∷ t) d s = cond-false (eqb b 45) _ _ (grind (arith, nat_tests))

signed_back : (z : ℤ) → mag z < 2 ^ 63 → signed_of (signed_decimal z) ≡ Ok z
signed_back (pos n) h =
    let k : n < 2 ^ 64 = omega arith in
    not_minus (decimal n) (digits_decimal own n k) (decimal_nonempty n k) ∙ ap (λ r. and_then r plus) (number_back n k) ∙ cond-true (ltb n (2 ^ 63)) _ _ (lt-ltb _ _ h)
signed_back (negsuc n) h =
    let k : suc n < 2 ^ 64 = omega arith in
    ap (λ r. and_then r minus) (number_back (suc n) k) ∙ cond-true (leb (suc n) (2 ^ 63)) _ _ (le-leb _ _ (omega arith))

plus_bounded : (n : ℕ) (z : ℤ) → plus n ≡ Ok z → mag z < 2 ^ 63
plus_bounded n z e = grind (arith, nat_tests)

neg_mag : (n : ℕ) → n ≤ 2 ^ 63 → mag (neg_ℤ (pos n)) < 2 ^ 63
neg_mag zero h = lit< tt
neg_mag (suc n) h = omega arith

minus_bounded : (n : ℕ) (z : ℤ) → minus n ≡ Ok z → mag z < 2 ^ 63
minus_bounded n z e = grind (arith, nat_tests, neg_mag n)

then_bounded : (r : Result ℕ LineError) (f : ℕ → Result ℤ LineError) (z : ℤ) → ((n : ℕ) → f n ≡ Ok z → mag z < 2 ^ 63) → and_then r f ≡ Ok z → mag z < 2 ^ 63
then_bounded (Ok n) f z h e = h n e
then_bounded (Err d) f z h e = cc

signed_by : (b : ℕ) (t : List ℕ) (z : ℤ) (v : Bool) → cond v (and_then (number_of t) minus) (and_then (number_of (b ∷ t)) plus) ≡ Ok z → mag z < 2 ^ 63
signed_by b t z true e = then_bounded (number_of t) minus z (λ n. minus_bounded n z) e
signed_by b t z false e = then_bounded (number_of (b ∷ t)) plus z (λ n. plus_bounded n z) e

signed_bounded : (w : List ℕ) (z : ℤ) → signed_of w ≡ Ok z → mag z < 2 ^ 63
signed_bounded [] z e = cc
signed_bounded (b ∷ t) z e = signed_by b t z (eqb b 45) e

number_law : NumberLaw
number_law = record { back = number_back; bounded = number_bounded; signed_back = signed_back; signed_bounded = signed_bounded }

pub language_law : LanguageLaw
language_law = record { words = words_law; spelling = spelling_law; numbers = number_law }
