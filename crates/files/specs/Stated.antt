-- What a control message states in its row of count, currency and total.
use Rattle.std.specs.Prelude.{◌≡◌, ℕ, ◌<◌, ◌≤◌, true, cond, ◌&&◌, List, [], ◌∷◌, ◌++◌, length, take, drop, Some, None, Option, nat_le}
use Rattle.std.specs.Str.{bytes_eq}
use Rattle.text.specs.Chars.{belongs, every, leading}
use Rattle.text.specs.declared.class.Class.TheVariants.{Digit}
use Rattle.text.specs.Digits.{number}
use Rattle.values.specs.Amounts.{amount_of}
use Rattle.values.specs.declared.currency.Currency.{Currency}
use Rattle.files.specs.declared.control.Control.{Control}

-- how many digits stand in front
abbrev pub digits_in_front : List ℕ → ℕ
digits_in_front r = leading (belongs Digit) r

-- the most digits of a count
abbrev pub count_digits : ℕ
count_digits = 3

-- a count of 1 to 3 digits, zeros in front allowed
abbrev pub count_of : List ℕ → Option ℕ
count_of ds = cond (nat_le 1 (length ds) && nat_le (length ds) count_digits) (Some (number ds)) None

-- count and total, if both are there
abbrev pub pairing : Option ℕ → Option ℕ → Option Control
pairing None t = None
pairing (Some n) None = None
pairing (Some n) (Some t) = Some (record { count = n; total = t })

-- all the digits in front are the count; then the currency's letters; then an amount, which may be 0
abbrev pub stated_of : List ℕ → Currency → Option Control
stated_of r m =
    cond (bytes_eq (take (length m.letters) (drop (digits_in_front r) r)) m.letters)
    (pairing (count_of (take (digits_in_front r) r)) (amount_of (drop (length m.letters) (drop (digits_in_front r) r))))
    None

-- one row, and no more
abbrev pub stated_by : List (List ℕ) → Currency → Option Control
stated_by [] m = None
stated_by (r ∷ []) m = stated_of r m
stated_by (r ∷ q ∷ rs) m = None

-- a row that states count and total in a currency: one to three digits that write the count, the currency's letters, and an amount of the total
pub record IsStated (r : List ℕ) (m : Currency) (c : Control) : Type 0 where
  pub digits : List ℕ
  pub amount : List ℕ
  pub written : r ≡ digits ++ (m.letters ++ amount)
  pub digital : every (belongs Digit) digits ≡ true
  pub sizes : (1 ≤ length digits) × (length digits ≤ count_digits)
  pub count : c.count ≡ number digits
  pub total : amount_of amount ≡ Some c.total

-- what is read is such a row, and every such row is read; a Currency as a record of specs does not carry that it has three letters, so that it has some is a premise
abbrev pub StatedLaw : Type 0
StatedLaw = (r : List ℕ) (m : Currency) (c : Control) → 0 < length m.letters → (stated_of r m ≡ Some c → IsStated r m c) × (IsStated r m c → stated_of r m ≡ Some c)
