-- The name of a file and the verdict on it.
use Rattle.std.specs.Prelude.{◌≡◌, ℕ, ◌+◌, Bool, true, false, cond, ◌||◌, List, ◌++◌, length, take, drop, Some, None, Ok, Err, codes, Option, Result, ◌==◌, nat_le, nat_lt}
use Rattle.std.specs.Str.{bytes_eq}
use Rattle.text.specs.Chars.{digit, every}
use Rattle.text.specs.Digits.{number}
use Rattle.names.specs.declared.kinds.FileKind.{FileKind}
use Rattle.names.specs.declared.kinds.FileKind.TheVariants.{Payments, Returns}
use Rattle.names.specs.declared.kinds.FileName.{FileName}
use Rattle.names.specs.declared.kinds.LastNumbers.{LastNumbers}
use Rattle.names.specs.declared.kinds.NameDenial.{NameDenial}
use Rattle.names.specs.declared.kinds.NameDenial.TheVariants.{WrongLength, WrongType, WrongDay, WrongNumber, UsedNumber, WrongExtension}

-- the number by which each denial is answered
abbrev pub number_of : NameDenial → ℕ
number_of WrongLength = 4
number_of WrongType = 5
number_of WrongDay = 6
number_of WrongNumber = 7
number_of UsedNumber = 8
number_of WrongExtension = 9

-- how many bytes a name has: two of its type, three of the day, four of the number, four of the extension
abbrev pub name_size : ℕ
name_size = 13

-- the two letters of a type
abbrev pub letters : FileKind → List ℕ
letters Payments = codes "PL"
letters Returns = codes "RL"

abbrev pub kind_of : List ℕ → Option FileKind
kind_of t = cond (bytes_eq t (letters Payments)) (Some Payments) (cond (bytes_eq t (letters Returns)) (Some Returns) None)

-- the extensions
abbrev pub known : List ℕ → Bool
known e = bytes_eq e (codes ".ent") || bytes_eq e (codes ".p7m")

-- how many digits tell the number of a file
abbrev pub number_size : ℕ
number_size = 4

-- the number that bytes tell, if all are digits
abbrev pub numeral : List ℕ → Option ℕ
numeral ds = cond (every digit ds) (Some (number ds)) None

-- the last number used for a type
abbrev pub last_of : LastNumbers → FileKind → ℕ
last_of last Payments = last.payments
last_of last Returns = last.returns

-- the digits tell the day of the year
abbrev pub is_day : Option ℕ → ℕ → Bool
is_day None day = false
is_day (Some d) day = d == day

-- numbers count from 1: those up to the last are used, and one more is next
abbrev pub number_verdict : Option ℕ → ℕ → Result ℕ NameDenial
number_verdict None last = Err WrongNumber
number_verdict (Some n) last = cond (n == 0 || nat_lt (last + 1) n) (Err WrongNumber) (cond (nat_le n last) (Err UsedNumber) (Ok n))

-- with a good number the extension decides
abbrev pub extension_verdict : FileKind → Result ℕ NameDenial → List ℕ → Result FileName NameDenial
extension_verdict k (Err d) e = Err d
extension_verdict k (Ok n) e = cond (known e) (Ok (record { kind = k; number = n })) (Err WrongExtension)

-- what the parts of a name tell is judged in this order: the type, the day, the number, the extension
abbrev pub parts_verdict : Option FileKind → Option ℕ → Option ℕ → List ℕ → ℕ → LastNumbers → Result FileName NameDenial
parts_verdict None d n e day last = Err WrongType
parts_verdict (Some k) d n e day last = cond (is_day d day) (extension_verdict k (number_verdict n (last_of last k)) e) (Err WrongDay)

-- the verdict on a name on a day of the year, after the last numbers used
abbrev pub name_verdict : List ℕ → ℕ → LastNumbers → Result FileName NameDenial
name_verdict name day last = cond (length name == name_size) (parts_verdict (kind_of (take 2 name)) (numeral (take 3 (drop 2 name))) (numeral (take 4 (drop 5 name))) (drop 9 name) day last) (Err WrongLength)

-- a name is good: written together are the letters of its type, three digits that tell the day, four that tell the number that is next, and an extension
pub record IsGood (name : List ℕ) (day : ℕ) (last : LastNumbers) (f : FileName) : Type 0 where
  pub day_digits : List ℕ
  pub number_digits : List ℕ
  pub extension : List ℕ
  pub whole : name ≡ letters f.kind ++ (day_digits ++ (number_digits ++ extension))
  pub three : length day_digits ≡ 3
  pub tells_day : numeral day_digits ≡ Some day
  pub four : length number_digits ≡ 4
  pub tells_number : numeral number_digits ≡ Some f.number
  pub is_next : f.number ≡ last_of last f.kind + 1
  pub is_known : known extension ≡ true

-- the good names are those that are not denied, and each tells its own type and number
abbrev pub NameLaw : Type 0
NameLaw = (name : List ℕ) (day : ℕ) (last : LastNumbers) (f : FileName) → (name_verdict name day last ≡ Ok f → IsGood name day last f) × (IsGood name day last f → name_verdict name day last ≡ Ok f)
