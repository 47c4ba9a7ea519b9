-- The number that characters write is the number of their spelling in digits. Assumes nothing.
use Rattle.std.proofs.Common.{◌≡◌, ℕ, ◌+◌, ◌-◌, ◌*◌, ◌/◌, ◌%◌, ◌≤◌, Bool, true, false, cond, ◌&&◌, ◌||◌, leb, List, [], ◌∷◌, refl, ap, ◌∙◌, arith}
use Rattle.std.proofs.lemmas.Bool.{and_parts, and_from, le-leb}
use Rattle.std.proofs.lemmas.Bool.Decides.{nat_tests}
use Rattle.text.specs.Digits.{number_after}
use Rattle.text.specs.Chars.{belongs, every, digit, capital}
use Rattle.text.specs.declared.class.Class.TheVariants.{Digit, Alphanumeric}
use Rattle.codes.specs.Accounts.{written_after, spelled, SpellingLaw}

-- one letter, whose value has two digits
letter : (n c : ℕ) → n * 100 + (c - 55) ≡ (n * 10 + ((48 + (c - 55) / 10) - 48)) * 10 + ((48 + (c - 55) % 10) - 48)
letter n c = omega arith

same_by : (n c : ℕ) (cs : List ℕ) (d : Bool) → ((m : ℕ) → written_after m cs ≡ number_after m (spelled cs))
    → written_after (n * cond d 10 100 + cond d (c - 48) (c - 55)) cs ≡ number_after n (cond d (c ∷ spelled cs) ((48 + (c - 55) / 10) ∷ (48 + (c - 55) % 10) ∷ spelled cs))
same_by n c cs true ih = ih (n * 10 + (c - 48))
same_by n c cs false ih = ih (n * 100 + (c - 55)) ∙ ap (λ m. number_after m (spelled cs)) (letter n c)

same : (n : ℕ) (cs : List ℕ) → written_after n cs ≡ number_after n (spelled cs)
same n [] = refl
same n (c ∷ cs) = same_by n c cs (digit c) (λ m. same m cs)

digital_by : (c : ℕ) (cs : List ℕ) (d : Bool) → digit c ≡ d → (capital c || digit c) ≡ true → every (belongs Digit) (spelled cs) ≡ true
    → every (belongs Digit) (cond d (c ∷ spelled cs) ((48 + (c - 55) / 10) ∷ (48 + (c - 55) % 10) ∷ spelled cs)) ≡ true
digital_by c cs true e h ih = and_from (digit c) (every (belongs Digit) (spelled cs)) e ih
digital_by c cs false e h ih =
    let up : c ≤ 90 = grind (arith, nat_tests) in
    let one : digit (48 + (c - 55) / 10) ≡ true = and_from (leb 48 (48 + (c - 55) / 10)) (leb (48 + (c - 55) / 10) 57) (le-leb _ _ (omega arith)) (le-leb _ _ (omega arith)) in
    let two : digit (48 + (c - 55) % 10) ≡ true = and_from (leb 48 (48 + (c - 55) % 10)) (leb (48 + (c - 55) % 10) 57) (le-leb _ _ (omega arith)) (le-leb _ _ (omega arith)) in
    and_from (digit (48 + (c - 55) / 10)) (digit (48 + (c - 55) % 10) && every (belongs Digit) (spelled cs)) one (and_from (digit (48 + (c - 55) % 10)) (every (belongs Digit) (spelled cs)) two ih)

digital : (cs : List ℕ) → every (belongs Alphanumeric) cs ≡ true → every (belongs Digit) (spelled cs) ≡ true
digital [] h = refl
digital (c ∷ cs) h =
    let p = and_parts (belongs Alphanumeric c) (every (belongs Alphanumeric) cs) h in
    digital_by c cs (digit c) refl p.0 (digital cs p.1)

pub spelling_law : SpellingLaw
spelling_law n cs h = (digital cs h, same n cs)
