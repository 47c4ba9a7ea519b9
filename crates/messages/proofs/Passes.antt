-- What is known of fields whose checks pass. Assumes nothing.
use Rattle.std.proofs.Common.{◌≡◌, ℕ, zero, suc, ◌≤◌, Bool, true, false, cond, not, ltb, List, [], ◌∷◌, length, get_or, is_some, Some, None, Ok, Option, sym, refl, ap, ◌∙◌, subst, arith}
use Rattle.std.specs.Option.{option_map}
use Rattle.std.specs.Str.{bytes_eq}
use Rattle.std.proofs.lemmas.Bool.{eqb-false, ltb-false, cond-true}
use Rattle.cuts.specs.Cuts.{Parts}
use Rattle.faults.specs.declared.code.Code.TheVariants.{F06, T09, T10, T11, T29}
use Rattle.fields.specs.Faults.{when, first_fault, answer}
use Rattle.fields.specs.Shapes.{Part, row}
use Rattle.fields.specs.Value.{date_in, currency_in, amount_in, is_value, bad_amount, over_limit, or_nothing, counted_of}
use Rattle.fields.specs.declared.terms.Terms.{Terms}
use Rattle.kinds.specs.Contents.{row_in}
use Rattle.text.specs.Reference.{is_reference}
use Rattle.values.specs.Amounts.{amount_of, limit}
use Rattle.messages.specs.Readings.{reference_read, value_read, fault_in, part_in}

single_passes : (b : Bool) (w : Option ℕ) (n : ℕ) (q : Part) → fault_in (Some (answer (first_fault n ((F06, cond b w (Some 1)) ∷ [])) q)) ≡ None
    → (b ≡ true) × (answer (first_fault n ((F06, cond b w (Some 1)) ∷ [])) q ≡ Ok q)
single_passes false w n q h = absurd (cc)
single_passes true (Some k) n q h = absurd (cc)
single_passes true None n q h = (refl, refl)

pub reference_good : (x : Option Parts) → is_some x ≡ true → fault_in (option_map reference_read x) ≡ None → is_reference (row_in (part_in (option_map reference_read x))) ≡ true
unfolding reference_read
reference_good None there h = absurd (let z : ◌≡◌ {A = Bool} false true = there in let y : ◌≡◌ {A = ℕ} 0 1 = cc in omega arith)
reference_good (Some p) there h =
    let r = get_or p.rows 0 [] in
    let s = single_passes (is_reference r) (when (ltb 1 (length p.rows)) 2) p.tag.number (row r) h in
    ap (λ x. is_reference (row_in (part_in (Some x)))) s.1 ∙ s.0

value_passes : (v : Bool) (w : Option ℕ) (b c z o : Bool) (n : ℕ) (q : Part)
    → fault_in (Some (answer (first_fault n ((F06, cond v w (Some 1)) ∷ (T09, when b 0) ∷ (T10, when c 0) ∷ (T11, when z 0) ∷ (T29, when o 0) ∷ [])) q)) ≡ None
    → (v ≡ true) × (z ≡ false) × (o ≡ false)
    × (answer (first_fault n ((F06, cond v w (Some 1)) ∷ (T09, when b 0) ∷ (T10, when c 0) ∷ (T11, when z 0) ∷ (T29, when o 0) ∷ [])) q ≡ Ok q)
value_passes false w b c z o n q h = absurd (cc)
value_passes true (Some k) b c z o n q h = absurd (cc)
value_passes true None true c z o n q h = absurd (cc)
value_passes true None false true z o n q h = absurd (cc)
value_passes true None false false true o n q h = absurd (cc)
value_passes true None false false false true n q h = absurd (cc)
value_passes true None false false false false n q h = (refl, refl, refl, refl)

positive : (k : ℕ) → (k ≡ 0 → ⊥) → 1 ≤ k
positive zero never = absurd (never refl)
positive (suc k) never = omega arith

-- an amount that is neither bad nor over the limit
pub within : (a : Option ℕ) → bad_amount a ≡ false → over_limit a ≡ false → (1 ≤ or_nothing a) × (or_nothing a ≤ limit)
within None z o = absurd (let y : ◌≡◌ {A = Bool} true false = z in let x : ◌≡◌ {A = ℕ} 0 1 = cc in omega arith)
within (Some k) z o = let not_nothing = eqb-false k 0 z in let few = ltb-false limit k o in (positive k not_nothing, few)

counts : (r : List ℕ) → is_value r ≡ true → counted_of r ≡ or_nothing (amount_of (amount_in r))
counts r v = cond-true (is_value r) _ _ v

pub value_good : (terms : Terms) (x : Option Parts) → is_some x ≡ true → fault_in (option_map (value_read terms) x) ≡ None
    → (1 ≤ counted_of (row_in (part_in (option_map (value_read terms) x)))) × (counted_of (row_in (part_in (option_map (value_read terms) x))) ≤ limit)
unfolding value_read
value_good terms None there h = absurd (let z : ◌≡◌ {A = Bool} false true = there in let y : ◌≡◌ {A = ℕ} 0 1 = cc in omega arith)
value_good terms (Some p) there h =
    let r = get_or p.rows 0 [] in
    let a = amount_of (amount_in r) in
    let s = value_passes (is_value r) (when (ltb 1 (length p.rows)) 2) (not (bytes_eq (date_in r) terms.day)) (not (bytes_eq (currency_in r) terms.currency)) (bad_amount a) (over_limit a) p.tag.number (row r) h in
    let e : or_nothing a ≡ counted_of (row_in (part_in (option_map (value_read terms) (Some p)))) = sym (ap (λ x. counted_of (row_in (part_in (Some x)))) s.3 ∙ counts r s.0) in
    subst (λ n. (1 ≤ n) × (n ≤ limit)) e (within a s.1 s.2)
