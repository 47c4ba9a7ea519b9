-- The rules of opening, one by one. Assumes nothing.
use Rattle.std.proofs.Common.{◌≡◌, ℕ, ◌≤◌, Bool, true, false, not, ◌&&◌, leb, cond, List, length, Some, None, Option, sym, ap, ◌∙◌}
use Rattle.std.specs.Option.{option_map}
use Rattle.std.proofs.lemmas.Option.{cond_some}
use Rattle.std.proofs.lemmas.Bool.{and_right, and_from, and_parts, leb-true, not-true}
use Rattle.codes.specs.Bics.{bic_formed}
use Rattle.values.specs.Calendar.{valid_date}
use Rattle.values.specs.Currencies.{currency_formed}
use Rattle.settings.specs.declared.opening.HouseEntry.{HouseEntry}
use Rattle.settings.specs.declared.opening.Opening.{Opening}
use Rattle.settings.specs.Rules.{among, bics_kept, house_limit, houses_kept, rules_kept}

-- what was made of a part of what is given: the part keeps its rule, and is what was made
pub made : {T U : Type 0} (f : T → U) (o : Option T) (x : T) (rule : Bool) (v : U) → o ≡ Some x → option_map f o ≡ cond rule (Some v) None → (rule ≡ true) × (f x ≡ v)
made f o x rule v is of =
    let kept = cond_some rule v (f x) (sym of ∙ ap (option_map f) is) in
    (kept.0, sym kept.1)

module _ (o : Opening) where
  abbrev dated : Bool
  dated = valid_date o.year o.month o.day

  abbrev paid : Bool
  paid = currency_formed o.currency.now

  abbrev cleared : Bool
  cleared = bic_formed o.clearing.now

  abbrev housed : Bool
  housed = houses_kept o.clearing.now o.houses.now

  pub no_houses : housed ≡ false → rules_kept o ≡ false
  no_houses e = and_right dated (paid && (cleared && housed)) (and_right paid (cleared && housed) (and_right cleared housed e))

  pub all_kept : dated ≡ true → paid ≡ true → cleared ≡ true → housed ≡ true → rules_kept o ≡ true
  all_kept a b c d = and_from dated (paid && (cleared && housed)) a (and_from paid (cleared && housed) b (and_from cleared housed c d))

-- what the rules say of the houses
pub record Housed (c : List ℕ) (es : List HouseEntry) : Type 0 where
  pub some : 1 ≤ length es
  pub few : length es ≤ house_limit
  pub kept : bics_kept es ≡ true
  pub apart : among c es ≡ false

pub houses_kept_lem : (c : List ℕ) (es : List HouseEntry) → houses_kept c es ≡ true → Housed c es
houses_kept_lem c es h =
    let a = and_parts (leb 1 (length es)) (leb (length es) house_limit && (bics_kept es && not (among c es))) h in
    let b = and_parts (leb (length es) house_limit) (bics_kept es && not (among c es)) a.1 in
    let d = and_parts (bics_kept es) (not (among c es)) b.1 in
    record { some = leb-true 1 (length es) a.0; few = leb-true (length es) house_limit b.0; kept = d.0; apart = not-true (among c es) d.1 }
