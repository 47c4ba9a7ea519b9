-- The rules of opening, as tests. Assumes nothing.
use Rattle.std.specs.Prelude.{◌≡◌, ◌≢◌, ℕ, ◌<◌, Bool, true, not, ◌&&◌, List, [], ◌∷◌, length, get_or, nat_le, Decides}
use Rattle.std.specs.List.{list_any}
use Rattle.std.specs.Str.{bytes_eq}
use Rattle.codes.specs.Bics.{bic_formed}
use Rattle.values.specs.Calendar.{valid_date}
use Rattle.values.specs.Currencies.{currency_formed}
use Rattle.settings.specs.declared.opening.HouseEntry.{HouseEntry}
use Rattle.settings.specs.declared.opening.Opening.{Opening}

-- how many houses there may be
abbrev pub house_limit : ℕ
house_limit = 64

-- the bytes that a house's entry gives as its BIC
abbrev pub entry_text : HouseEntry → List ℕ
entry_text e = e.bic.now

-- one of the entries gives the BIC t
abbrev pub among : List ℕ → List HouseEntry → Bool
among t es = list_any (λ e. bytes_eq t (entry_text e)) es

-- a BIC t is formed, and no later house has it
abbrev pub bic_kept : List ℕ → List HouseEntry → Bool
bic_kept t later = bic_formed t && not (among t later)

-- the BIC of every house is so
abbrev pub bics_kept : List HouseEntry → Bool
bics_kept [] = true
bics_kept (e ∷ es) = bic_kept (entry_text e) es && bics_kept es

-- the BICs are all formed, and those at two places differ
pub record Distinct (es : List HouseEntry) : Type 0 where
  pub formed : (i : ℕ) (d : HouseEntry) → i < length es → bic_formed (entry_text (get_or es i d)) ≡ true
  pub differ : (i j : ℕ) (d : HouseEntry) → i < j → j < length es → entry_text (get_or es i d) ≢ entry_text (get_or es j d)

-- the test tells just that
abbrev pub BicsLaw : Type 0
BicsLaw = (es : List HouseEntry) → Decides (bics_kept es) (Distinct es)

-- 1 to 64 houses, whose BICs are formed and differ, also from the clearing's, c
abbrev pub houses_kept : List ℕ → List HouseEntry → Bool
houses_kept c es = nat_le 1 (length es) && (nat_le (length es) house_limit && (bics_kept es && not (among c es)))

-- a valid date, a currency of three capital letters, a BIC for the clearing, and houses as above
abbrev pub rules_kept : Opening → Bool
rules_kept o = valid_date o.year o.month o.day && (currency_formed o.currency.now && (bic_formed o.clearing.now && houses_kept o.clearing.now o.houses.now))
