-- The number of a text has room in 128 bits, and its digits are the text again. Assumes nothing.
use Rattle.std.specs.Prelude.{◌≡◌, ℕ, zero, suc, ◌+◌, ◌*◌, ◌/◌, ◌%◌, ◌^◌, ◌<◌, ◌≤◌, List, [], ◌∷◌, ◌++◌, length, take, slice_index, slice_index_or, refl}
use Rattle.std.proofs.Common.{sym, ap, subst, ◌∙◌, add-one, arith, lit<}
use Rattle.std.proofs.Math.Nat.{pow-le-pow_right}
use Rattle.std.specs.Int.Digits.{number_from_digits}
use Rattle.std.proofs.lemmas.Int.Digits.{digits_of_step, number_more, number_lt, same_from_digits_of}
use Rattle.std.proofs.lemmas.List.{take_more, take_all, length-take-le}
use Rattle.std.proofs.ByRecursion.{All-take, All-from_get_or}
use Rattle.keys.specs.Texts.{spelled}

-- each is a byte
abbrev pub Bytes : List ℕ → Type 0
Bytes t = (i : ℕ) → i < length t → slice_index t i < 256

-- none is 0
abbrev pub Plain : List ℕ → Type 0
Plain t = (i : ℕ) → i < length t → 0 < slice_index t i

pub number_room : (t : List ℕ) → Bytes t → length t ≤ 16 → (i : ℕ) → i < length t → number_from_digits 256 (take i t) * 256 + slice_index t i < 2 ^ 128
number_room t bytes room i h =
    let n : length (take (i + 1) t) ≡ i + 1 = length-take-le (i + 1) t (omega arith) in
    let under = number_lt 256 (take (i + 1) t) (All-take (λ d. d < 256) (i + 1) t (All-from_get_or (λ d. d < 256) t 0 bytes)) in
    let short : length (take (i + 1) t) ≤ 16 = omega arith in
    let up : 256 ^ length (take (i + 1) t) ≤ 256 ^ 16 = pow-le-pow_right (lit< tt) short in
    let step = number_more 256 t i h in
    omega arith

-- the digits of a front's number are the front
spelled_front : (t : List ℕ) → Bytes t → Plain t → (i : ℕ) → i ≤ length t → spelled (number_from_digits 256 (take i t)) ≡ take i t
spelled_front t bytes plain zero h = refl
spelled_front t bytes plain (suc i) h =
    let d : ℕ = slice_index_or t i 0 in
    let q : ℕ = number_from_digits 256 (take i t) in
    let l : i < length t = h in
    let small : d < 256 = bytes i l in
    let pos : 0 < d = plain i l in
    let step : number_from_digits 256 (take (suc i) t) ≡ q * 256 + d = ap (λ j. number_from_digits 256 (take j t)) (sym (add-one i)) ∙ number_more 256 t i l in
    let quotient : (q * 256 + d) / 256 ≡ q = omega arith in
    let rest : (q * 256 + d) % 256 ≡ d = omega arith in
    let front : spelled q ≡ take i t = spelled_front t bytes plain i (omega arith) in
    ap spelled step
    ∙ digits_of_step 256 (q * 256 + d) (omega arith) (omega arith)
    ∙ ap (λ a. spelled a ++ ((q * 256 + d) % 256 ∷ [])) quotient
    ∙ ap (λ a. spelled q ++ (a ∷ [])) rest
    ∙ ap (λ a. a ++ (d ∷ [])) front
    ∙ sym (take_more t i 0 l)
    ∙ ap (λ j. take j t) (add-one i)

pub spelled_number : (t : List ℕ) → Bytes t → Plain t → spelled (number_from_digits 256 t) ≡ t
spelled_number t bytes plain =
    let all : take (length t) t ≡ t = take_all (length t) t (omega arith) in
    subst (λ u. spelled (number_from_digits 256 u) ≡ u) all (spelled_front t bytes plain (length t) (omega arith))

-- a text of the form has the number from which it is spelled again
pub spelled_same : (t : List ℕ) (n : ℕ) → Bytes t → Plain t → n ≡ number_from_digits 256 t → spelled n ≡ t
spelled_same t n bytes plain is = ap spelled is ∙ spelled_number t bytes plain

-- no two numbers are spelled the same
pub same_from_spelled : (m n : ℕ) → spelled m ≡ spelled n → m ≡ n
same_from_spelled m n e = same_from_digits_of 256 m n (omega arith) e
