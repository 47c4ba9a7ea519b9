-- The bytes of a number, and the characters that it stands for. Assumes nothing.
use Rattle.std.proofs.Common.{◌≡◌, ℕ, zero, suc, ◌+◌, ◌*◌, ◌/◌, ◌%◌, ◌^◌, ◌<◌, ◌≤◌, ◌≢◌, cond, [], ◌∷◌, ◌++◌, length, drop, eqb, sym, refl, ap, ◌∙◌, subst, ⊎_elim, arith}
use Rattle.std.proofs.Math.Nat.{div-div-eq-div-mul, div-eq_of_lt, le-div_iff_mul-le, div-lt_iff_lt-mul, pow-succ', pow-suc, one-le-pow}
use Rattle.std.proofs.Math.Numerals.{one-add}
use Rattle.std.specs.Int.{byte_at, bytes_high_first}
use Rattle.std.specs.List.{prefix_len}
use Rattle.std.proofs.lemmas.Int.Digits.{digits_of_step, length-digits_of-le, number_digits_of, number_lt, all_below_base_digits_of}
use Rattle.std.proofs.lemmas.Bool.{cases_lt, eq-eqb, ne_eqb}
use Rattle.keys.specs.Texts.{spelled}

byte_up : (k n : ℕ) → byte_at (suc k) n ≡ byte_at k (n / 256)
byte_up zero n = refl
byte_up (suc k) n = ap (λ m. m % 256) (ap (λ p. n / p) (pow-succ' 256 (suc k)) ∙ sym (div-div-eq-div-mul n 256 (256 ^ suc k)))

-- the lowest byte stands last
lowest_last : (k n : ℕ) → bytes_high_first (suc k) n ≡ bytes_high_first k (n / 256) ++ (n % 256 ∷ [])
lowest_last zero n = refl
lowest_last (suc k) n = ap (λ b. b ∷ bytes_high_first (suc k) n) (byte_up k n) ∙ ap (λ bs. byte_at k (n / 256) ∷ bs) (lowest_last k n)

-- as many bytes as the number has are its characters
pub all_spelled : (k n : ℕ) → 256 ^ k ≤ n → n < 256 ^ suc k → bytes_high_first (suc k) n ≡ spelled n
all_spelled zero n low high =
    let small : n / 256 ≡ 0 = omega arith in
    ap (λ m. spelled m ++ (n % 256 ∷ [])) (sym small) ∙ sym (digits_of_step 256 n (omega arith) (omega arith))
all_spelled (suc k) n low high =
    let a = pow-suc 256 (suc k) in
    let b = pow-suc 256 k in
    let positive : 0 < n = omega (arith, low) in
    lowest_last (suc k) n
    ∙ ap (λ ds. ds ++ (n % 256 ∷ [])) (all_spelled k (n / 256) (omega arith) (omega arith))
    ∙ sym (digits_of_step 256 n (omega arith) positive)

-- a number has no more bytes than characters
pub spelled_lt : (n : ℕ) → n < 256 ^ length (spelled n)
spelled_lt n =
    let same = number_digits_of 256 n (omega arith) in
    let under = number_lt 256 (spelled n) (all_below_base_digits_of 256 n (omega arith)) in
    subst (λ m. m < 256 ^ length (spelled n)) same under

pub counted_spelled : (k n : ℕ) → length (spelled n) ≡ suc k → bytes_high_first (suc k) n ≡ spelled n
counted_spelled k n size = ⊎_elim
    (λ less. absurd (let short = length-digits_of-le 256 k n (omega arith) less in omega arith))
    (λ least. all_spelled k n least (subst (λ l. n < 256 ^ l) size (spelled_lt n)))
    (cases_lt n (256 ^ k))

-- the byte above a number is 0, and its own highest byte is not
byte_above : (k n : ℕ) → n < 256 ^ k → byte_at k n ≡ 0
byte_above zero n h = omega arith
byte_above (suc k) n h = ap (λ q. q % 256) (div-eq_of_lt h)

highest_byte : (k n : ℕ) → 256 ^ k ≤ n → n < 256 ^ suc k → byte_at k n ≢ 0
highest_byte zero n low high e = omega arith
highest_byte (suc k) n low high e =
    let positive : 0 < 256 ^ suc k = one-le-pow (suc k) 256 (omega arith) in
    let step : 256 ^ suc (suc k) ≡ 256 * 256 ^ suc k = pow-succ' 256 (suc k) in
    let least : 1 ≤ n / 256 ^ suc k = (le-div_iff_mul-le positive).1 (omega arith) in
    let most : n / 256 ^ suc k < 256 = (div-lt_iff_lt-mul positive).1 (omega arith) in
    omega arith

-- of more bytes, those behind the zeros in front are
pub rest_spelled : (k n : ℕ) → n < 256 ^ k → drop (prefix_len (λ b. eqb b 0) (bytes_high_first k n)) (bytes_high_first k n) ≡ spelled n
rest_spelled zero n h =
    let e : 0 ≡ n = omega arith in
    ap spelled e
rest_spelled (suc k) n h =
    let bs = bytes_high_first k n in
    let b = byte_at k n in
    let zeros = prefix_len (λ b. eqb b 0) bs in
    ⊎_elim
    (λ less. ap (λ t. drop (cond t (1 + zeros) 0) (b ∷ bs)) (eq-eqb b 0 (byte_above k n less)) ∙ ap (λ m. drop m (b ∷ bs)) (one-add zeros) ∙ rest_spelled k n less)
    (λ least. ap (λ t. drop (cond t (1 + zeros) 0) (b ∷ bs)) (ne_eqb b 0 (highest_byte k n least h)) ∙ all_spelled k n least h)
    (cases_lt n (256 ^ k))
