-- What opening answers, and what settings hold. Assumes nothing.
use Rattle.std.specs.Prelude.{◌≡◌, true, false, List, map, Ok, Err, vec_items, Result}
use Rattle.keys.specs.Held.{bic_text}
use Rattle.settings.specs.declared.answers.OpenDenial.{OpenDenial}
use Rattle.settings.specs.declared.answers.OpenDenial.TheVariants.{BreaksRule, NoMemory}
use Rattle.settings.specs.declared.house.House.{House}
use Rattle.settings.specs.declared.opening.Opening.{Opening}
use Rattle.settings.specs.declared.settings.Settings.{Settings}
use Rattle.settings.specs.Rules.{rules_kept}
use Rattle.settings.specs.Places.{held_house, given_house}

-- the houses, by place
abbrev pub houses_of : Settings → List House
houses_of s = vec_items s.directory.houses

-- the settings hold what was given
pub record Holds (s : Settings) (o : Opening) : Type 0 where
  pub year : s.date.year ≡ o.year
  pub month : s.date.month ≡ o.month
  pub day : s.date.day ≡ o.day
  pub currency : s.currency.letters ≡ o.currency.now
  pub clearing : bic_text s.clearing ≡ o.clearing.now
  pub houses : map held_house (houses_of s) ≡ map given_house o.houses.now

-- a rule is broken just when that is answered; else the settings hold what was given, or there was no memory for them
abbrev pub Opened : Opening → Result Settings OpenDenial → Type 0
Opened o (Ok s) = (rules_kept o ≡ true) × Holds s o
Opened o (Err BreaksRule) = rules_kept o ≡ false
Opened o (Err NoMemory) = rules_kept o ≡ true
