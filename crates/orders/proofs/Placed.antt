-- Fields that are placed in an order of slots.
use Rattle.std.proofs.Common.{◌≡◌, Bool, true, false, cond, eqb, List, [], ◌∷◌, ◌++◌, length, Some, None, Option, sym, refl, ap, ◌∙◌}
use Rattle.std.proofs.lemmas.Bool.{and_parts, and_from, eqb-true}
use Rattle.std.proofs.lemmas.List.{append-nil, nil_from_length}
use Rattle.std.proofs.lemmas.Option.{cond_some}
use Rattle.cuts.specs.Cuts.{Parts}
use Rattle.orders.specs.declared.slot.Slot.{Slot}
use Rattle.orders.specs.Orders.{fits, taken, left, arranged, left_over, complete, in_order, standing_in, each_fits, OrderLaw}

-- one slot, by whether the field at hand fits it
stands_by : (f : Parts) (ss : List Slot) (fs : List Parts) (v : Bool)
    → standing_in (arranged ss fs) ++ left_over ss fs ≡ fs → standing_in (arranged ss (f ∷ fs)) ++ left_over ss (f ∷ fs) ≡ f ∷ fs
    → standing_in (cond v (Some f) None ∷ arranged ss (cond v fs (f ∷ fs))) ++ left_over ss (cond v fs (f ∷ fs)) ≡ f ∷ fs
stands_by f ss fs true on stay = ap (λ l. f ∷ l) on
stands_by f ss fs false on stay = stay

-- what stands in the slots and what no slot took are the fields as they came
stands : (order : List Slot) (fs : List Parts) → standing_in (arranged order fs) ++ left_over order fs ≡ fs
unfolding taken left
stands [] fs = refl
stands (s ∷ ss) [] = stands ss []
stands (s ∷ ss) (f ∷ fs) = stands_by f ss fs (fits s f.tag) (stands ss fs) (stands ss (f ∷ fs))

fit_by : (s : Slot) (f : Parts) (ss : List Slot) (fs : List Parts) (v : Bool) → fits s f.tag ≡ v
    → each_fits ss (arranged ss fs) ≡ true → each_fits ss (arranged ss (f ∷ fs)) ≡ true
    → each_fits (s ∷ ss) (cond v (Some f) None ∷ arranged ss (cond v fs (f ∷ fs))) ≡ true
fit_by s f ss fs true e on stay = and_from (fits s f.tag) (each_fits ss (arranged ss fs)) e on
fit_by s f ss fs false e on stay = stay

fit : (order : List Slot) (fs : List Parts) → each_fits order (arranged order fs) ≡ true
unfolding taken left
fit [] fs = refl
fit (s ∷ ss) [] = fit ss []
fit (s ∷ ss) (f ∷ fs) = fit_by s f ss fs (fits s f.tag) refl (fit ss fs) (fit ss (f ∷ fs))

pub order_law : OrderLaw
order_law order fs ps h =
    let p = cond_some {A = List (Option Parts)} (in_order order fs) (arranged order fs) ps h in
    let q = and_parts (complete order (arranged order fs)) (eqb (length (left_over order fs)) 0) p.0 in
    let all : left_over order fs ≡ [] = nil_from_length (left_over order fs) (eqb-true (length (left_over order fs)) 0 q.1) in
    let at : standing_in (arranged order fs) ≡ fs =
    sym (append-nil (standing_in (arranged order fs))) ∙ ap (λ l. standing_in (arranged order fs) ++ l) (sym all) ∙ stands order fs in
    (ap standing_in (sym p.1) ∙ at, ap (each_fits order) (sym p.1) ∙ fit order fs, ap (complete order) (sym p.1) ∙ q.0)
