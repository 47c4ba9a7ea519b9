-- The lengths of months, summed; and what six digits say. Assumes nothing.
use Rattle.std.proofs.Common.{◌≡◌, ℕ, zero, suc, ◌+◌, ◌-◌, ◌<◌, ◌≤◌, true, cond, leb, List, [], ◌∷◌, get_or, sym, refl, ap, ◌∙◌, inl, inr, add-one, arith}
use Rattle.std.proofs.lemmas.Bool.{and_parts, leb-true, cases_eq, cases_order}
use Rattle.std.proofs.lemmas.Bool.Decides.{nat_tests}
use Rattle.text.specs.Chars.{every}
use Rattle.values.specs.Calendar.{month_lengths, months_in_year, leap, days_in, days_of, day_of_year, valid_date, yymmdd, NumberingLaw, SameDayLaw, SixDigitsLaw}

all_few : (most : ℕ) (xs : List ℕ) → every (λ x. leb x most) xs ≡ true → (k : ℕ) → get_or xs k 0 ≤ most
all_few most [] h k = omega arith
all_few most (x ∷ xs) h zero = leb-true x most (and_parts (leb x most) (every (λ x. leb x most) xs) h).0
all_few most (x ∷ xs) h (suc k) = all_few most xs (and_parts (leb x most) (every (λ x. leb x most) xs) h).1 k

lengths_few : (k : ℕ) → get_or month_lengths k 0 ≤ 31
lengths_few k = all_few 31 month_lengths refl k

days_more : (year k : ℕ) → days_of year (k + 1) ≡ days_of year k + days_in year (k + 1)
days_more year k = rw add-one

pub days_few : (year month : ℕ) → days_in year month ≤ 32
days_few year month = let few = lengths_few (month - 1) in grind (arith, nat_tests)

-- what a valid date's numbers are
record Valid (year month day : ℕ) : Type 0 where
  years : (2000 ≤ year) × (year ≤ 2099)
  months : (1 ≤ month) × (month ≤ 12)
  days : (1 ≤ day) × (day ≤ days_in year month) × (day < 100)

valid : (year month day : ℕ) → valid_date year month day ≡ true → Valid year month day
valid year month day h =
    let a = and_parts (leb 2000 year) _ h in
    let b = and_parts (leb year 2099) _ a.1 in
    let c = and_parts (leb 1 month) _ b.1 in
    let d = and_parts (leb month 12) _ c.1 in
    let e = and_parts (leb 1 day) (leb day (days_in year month)) d.1 in
    let m : day ≤ days_in year month = leb-true _ _ e.1 in
    record {
      years = (leb-true _ _ a.0, leb-true _ _ b.0);
      months = (leb-true _ _ c.0, leb-true _ _ d.0);
      days = (leb-true _ _ e.0, m, omega (arith, days_few year month));
    }

-- more months have no fewer days
days_grow : (year n m : ℕ) → m ≤ n → days_of year m ≤ days_of year n
days_grow year zero zero h = omega arith
days_grow year zero (suc m) h = absurd (omega arith)
days_grow year (suc n) m h =
    elim (cases_eq m (suc n)) [
      | inl e ↦ let q = ap (days_of year) e in omega arith
      | inr f ↦ omega (arith, days_grow year n m (omega arith))
    ]

-- the days up to the end of a month are those up to the end of the one before, and its own
month_days : (year month : ℕ) → 1 ≤ month → days_of year month ≡ days_of year (month - 1) + days_in year month
month_days year month h =
    let e : month - 1 + 1 ≡ month = omega arith in
    ap (days_of year) (sym e) ∙ days_more year (month - 1) ∙ ap (λ m. days_of year (month - 1) + days_in year m) e

pub month_added : (year month days own : ℕ) → 1 ≤ month → days ≡ days_of year (month - 1) → own ≡ days_in year month → days + own ≡ days_of year month
month_added year month days own h e f = ap (λ d. d + own) e ∙ ap (λ d. days_of year (month - 1) + d) f ∙ sym (month_days year month h)

-- a day comes no later than the end of its month
within_month : (year month day : ℕ) → Valid year month day → day_of_year year month day ≤ days_of year month
within_month year month day v = omega (arith, month_days year month v.months.0, v.days.1)

pub numbering_law : NumberingLaw
numbering_law year month day h =
    let v = valid year month day h in
    let whole : days_of year months_in_year ≡ 365 + cond (leap year) 1 0 = omega arith in
    (omega (arith, v.days.0), omega (arith, within_month year month day v, days_grow year months_in_year month v.months.1))

-- a date of an earlier month has an earlier day of the year
earlier : (year month day month' day' : ℕ) → Valid year month day → Valid year month' day' → month < month' → day_of_year year month day < day_of_year year month' day'
earlier year month day month' day' v v' h = omega (arith, within_month year month day v, days_grow year (month' - 1) month (omega arith), v'.days.0)

pub same_day_law : SameDayLaw
same_day_law year month day month' day' h h' e =
    let v = valid year month day h in
    let v' = valid year month' day' h' in
    elim (cases_order month month') [
      | inl m ↦ let q = ap (λ k. days_of year (k - 1)) m in (m, omega arith)
      | inr o ↦ elim o [
        | inl l ↦ absurd (omega (arith, earlier year month day month' day' v v' l))
        | inr l ↦ absurd (omega (arith, earlier year month' day' month day v' v l))
      ]
    ]

pub six_digits_law : SixDigitsLaw
six_digits_law year month day year' month' day' h h' e =
    let v = valid year month day h in
    let v' = valid year' month' day' h' in
    let at : (k : ℕ) → get_or (yymmdd year month day) k 0 ≡ get_or (yymmdd year' month' day') k 0 = λ k. ap (λ s. get_or s k 0) e in
    let y1 = at 0 in
    let y2 = at 1 in
    let m1 = at 2 in
    let m2 = at 3 in
    let d1 = at 4 in
    let d2 = at 5 in
    (omega (arith, v.years, v'.years), omega (arith, v.months, v'.months), omega (arith, v.days, v'.days))
