-- The Gregorian calendar from 2000 to 2099. A year, a month from 1 and a day from 1 are plain numbers here.
use Rattle.std.specs.Prelude.{◌≡◌, ℕ, zero, suc, ◌+◌, ◌-◌, ◌%◌, ◌≤◌, Bool, true, cond, not, ◌&&◌, ◌||◌, List, [], ◌∷◌, ◌++◌, Some, None, Option, ◌==◌, nat_le, slice_index}
use Rattle.values.specs.Digits.{digits}

-- the years whose last two digits tell them apart
abbrev pub first_year : ℕ
first_year = 2000

abbrev pub last_year : ℕ
last_year = 2099

-- how many months a year has
abbrev pub months_in_year : ℕ
months_in_year = 12

-- how many days the months from January have in a common year
abbrev pub month_lengths : List ℕ
month_lengths = 31 ∷ 28 ∷ 31 ∷ 30 ∷ 31 ∷ 30 ∷ 31 ∷ 31 ∷ 30 ∷ 31 ∷ 30 ∷ 31 ∷ []

-- every fourth year is a leap year, of the hundreds every fourth
abbrev pub leap : ℕ → Bool
leap year = year % 4 == 0 && (not (year % 100 == 0) || year % 400 == 0)

-- how many days a month has in a common year
abbrev pub common_days : ℕ → ℕ
common_days month = slice_index month_lengths (month - 1)

-- the day that February has more in a leap year
abbrev pub leap_day : ℕ → ℕ → ℕ
leap_day year month = cond (month == 2 && leap year) 1 0

-- how many days a month of the year has
abbrev pub days_in : ℕ → ℕ → ℕ
days_in year month = common_days month + leap_day year month

-- a date of the calendar
abbrev pub valid_date : ℕ → ℕ → ℕ → Bool
valid_date year month day = nat_le first_year year && (nat_le year last_year && (nat_le 1 month && (nat_le month months_in_year && (nat_le 1 day && nat_le day (days_in year month)))))

-- the year, month and day, where they are a date
abbrev pub dated : ℕ → ℕ → ℕ → Option (ℕ × ℕ × ℕ)
dated year month day = cond (valid_date year month day) (Some (year, month, day)) None

-- the days of the first n months, summed
abbrev pub days_of : ℕ → ℕ → ℕ
days_of year zero = 0
days_of year (suc n) = days_of year n + days_in year (suc n)

-- the days of the months before, summed, and the day
abbrev pub day_of_year : ℕ → ℕ → ℕ → ℕ
day_of_year year month day = days_of year (month - 1) + day

-- two digits each of year, month and day
abbrev pub yymmdd : ℕ → ℕ → ℕ → List ℕ
yymmdd year month day = digits 2 (year % 100) ++ digits 2 month ++ digits 2 day

-- the days of a year are numbered from 1 to 365, in a leap year to 366
abbrev pub NumberingLaw : Type 0
NumberingLaw = (year month day : ℕ) → valid_date year month day ≡ true → (1 ≤ day_of_year year month day) × (day_of_year year month day ≤ 365 + cond (leap year) 1 0)

-- one number, one day: two dates of a year with the same day of the year are the same
abbrev pub SameDayLaw : Type 0
SameDayLaw = (year month day month' day' : ℕ) → valid_date year month day ≡ true → valid_date year month' day' ≡ true
    → day_of_year year month day ≡ day_of_year year month' day' → (month ≡ month') × (day ≡ day')

-- two dates with the same six digits are the same
abbrev pub SixDigitsLaw : Type 0
SixDigitsLaw = (year month day year' month' day' : ℕ) → valid_date year month day ≡ true → valid_date year' month' day' ≡ true
    → yymmdd year month day ≡ yymmdd year' month' day' → (year ≡ year') × (month ≡ month') × (day ≡ day')
