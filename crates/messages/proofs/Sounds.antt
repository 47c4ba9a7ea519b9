-- Payments and returns that pass are proper. Assumes nothing.
use Rattle.std.proofs.Common.{◌≡◌, ℕ, zero, suc, Bool, true, false, cond, ◌||◌, eqb, List, [], ◌∷◌, ◌++◌, map, length, get_or, is_some, Some, None, Ok, Option, Result, sym, refl, subst}
use Rattle.std.proofs.lemmas.Bool.{and_parts, false≢true}
use Rattle.cuts.specs.Cuts.{Parts}
use Rattle.faults.specs.declared.code.Fault.{Fault}
use Rattle.fields.specs.Shapes.{Part}
use Rattle.headers.specs.Tables.{first_of}
use Rattle.kinds.specs.Sound.{Proper, Sound}
use Rattle.orders.specs.Orders.{in_order, arranged, complete, left_over, placed}
use Rattle.orders.specs.declared.slot.Slot.{Slot}
use Rattle.messages.specs.Payments.{start_readings, later_readings, payment_faults, payment_of, payment_read}
use Rattle.messages.specs.Readings.{part_in, standing, in_slots}
use Rattle.messages.specs.Returns.{return_faults, return_parts, return_of, return_read}
use Rattle.messages.specs.Slots.{payment_order, return_order}
use Rattle.headers.proofs.Tables.{ok_parts, none_fails}
use Rattle.messages.proofs.Passes.{reference_good, value_good}

needed : (m b : Bool) → m ≡ false → (m || b) ≡ true → b ≡ true
needed true b e h = absurd (false≢true (sym e))
needed false b e h = h

-- in a complete order, what may not be missing is there
there_at : (order : List Slot) (ps : List (Option Parts)) (i : ℕ) → complete order ps ≡ true → get_or (map (λ s. s.may_be_missing) order) i true ≡ false → is_some (get_or ps i None) ≡ true
there_at [] ps zero c m = absurd (false≢true (sym m))
there_at [] ps (suc i) c m = absurd (false≢true (sym m))
there_at (s ∷ ss) [] i c m = absurd (false≢true c)
there_at (s ∷ ss) (p ∷ ps) zero c m = needed s.may_be_missing (is_some p) m (and_parts (s.may_be_missing || is_some p) (complete ss ps) c).0
there_at (s ∷ ss) (p ∷ ps) (suc i) c m = there_at ss ps i (and_parts (s.may_be_missing || is_some p) (complete ss ps) c).1 m

by_order : (reads : List (Option Parts) → Result (List (Option Part)) Fault) (order : List Slot) (fs : List Parts) (qs : List (Option Part)) (b : Bool) → in_order order fs ≡ b
    → in_slots reads (cond b (Some (arranged order fs)) None) ≡ Ok qs → (complete order (arranged order fs) ≡ true) × (reads (arranged order fs) ≡ Ok qs)
by_order reads order fs qs false e h = absurd (cc)
by_order reads order fs qs true e h = ((and_parts (complete order (arranged order fs)) (eqb (length (left_over order fs)) 0) e).0, h)

-- what is read was in order
ordered : (reads : List (Option Parts) → Result (List (Option Part)) Fault) (order : List Slot) (fs : List Parts) (qs : List (Option Part))
    → in_slots reads (placed order fs) ≡ Ok qs → (complete order (arranged order fs) ≡ true) × (reads (arranged order fs) ≡ Ok qs)
ordered reads order fs qs h = by_order reads order fs qs (in_order order fs) refl h

pub return_sound : Sound 2 return_read
return_sound terms receiver fs qs h =
    let ps = arranged return_order fs in
    let o = ordered (return_of terms receiver) return_order fs qs h in
    let p = ok_parts (first_of (return_faults terms receiver ps)) (return_parts terms ps) qs o.1 in
    let good = value_good terms (standing 2 ps) (there_at return_order ps 2 o.0 refl) (none_fails (return_faults terms receiver ps) 2 p.0) in
    let named = reference_good (standing 0 ps) (there_at return_order ps 0 o.0 refl) (none_fails (return_faults terms receiver ps) 0 p.0) in
    subst (Proper 2) p.1 (record { reference = named; some = good.0; few = good.1 })

pub payment_sound : Sound 3 payment_read
payment_sound terms receiver fs qs h =
    let ps = arranged payment_order fs in
    let o = ordered (payment_of terms receiver) payment_order fs qs h in
    let p = ok_parts (first_of (payment_faults terms receiver ps)) (map part_in (start_readings terms ps) ++ map part_in (later_readings ps)) qs o.1 in
    let good = value_good terms (standing 3 ps) (there_at payment_order ps 3 o.0 refl) (none_fails (payment_faults terms receiver ps) 3 p.0) in
    let named = reference_good (standing 0 ps) (there_at payment_order ps 0 o.0 refl) (none_fails (payment_faults terms receiver ps) 0 p.0) in
    subst (Proper 3) p.1 (record { reference = named; some = good.0; few = good.1 })
