-- Covers together: what positions that come to 0 and what a sum paid in make of them.
use Rattle.std.proofs.Common.{◌≡◌, ℕ, zero, suc, ◌+◌, ◌<◌, ◌≤◌, true, ◌&&◌, leb, List, length, Ok, get_or, take, set, ℤ, pos, ◌+ℤ◌, refl, add-one, arith}
use Rattle.std.proofs.lemmas.Bool.Decides.{nat_tests}
use Rattle.keeper.specs.PayIns.{most_paid_in, pay_in_answer}
use Rattle.std.proofs.lemmas.Int.{ints}
use Rattle.std.proofs.lemmas.List.Sums.{fold_more, get_or-le-sum_by, sum_by-set}
use Rattle.std.proofs.lemmas.List.{take_all}
use Rattle.keeper.specs.Covers.{total, most_together}
use Rattle.keeper.specs.Offers.{Sound, NoneShort, add_each, sum_ℤ}
use Rattle.keeper.proofs.Accounts.{paid_in}
use Rattle.keeper.proofs.Added.{add_each_at, add_each_length}

pub cover_le_total : (covers : List ℕ) (k d : ℕ) → k < length covers → get_or covers k d ≤ total covers
cover_le_total covers k d h = get_or-le-sum_by (λ c. c) covers k d h

-- a sum that is paid in is added to the covers together
pub total_paid : (covers : List ℕ) (k cover d amount : ℕ) → k < length covers → cover ≡ get_or covers k d
    → total (set covers k (cover + amount)) ≡ total covers + amount
total_paid covers k cover d amount h e = let s = sum_by-set (λ c. c) covers k (cover + amount) d h in omega arith

fronts : (covers : List ℕ) (ps : List ℤ) → length ps ≡ length covers → NoneShort covers ps
    → (i : ℕ) → i ≤ length covers → pos (total (take i (add_each covers ps))) ≡ pos (total (take i covers)) +ℤ sum_ℤ (take i ps)
fronts covers ps long enough zero h = refl
fronts covers ps long enough (suc i) h =
    let ih = fronts covers ps long enough i (omega arith) in
    let l = add_each_length covers ps in
    let at = add_each_at covers ps long enough i (omega arith) in
    let a : total (take (suc i) (add_each covers ps)) ≡ total (take i (add_each covers ps)) + get_or (add_each covers ps) i 0 = rw (← add-one) (fold_more (λ a x. a + x) 0 (add_each covers ps) i 0 (omega arith)) in
    let b : total (take (suc i) covers) ≡ total (take i covers) + get_or covers i 0 = rw (← add-one) (fold_more (λ a x. a + x) 0 covers i 0 (omega arith)) in
    let p : sum_ℤ (take (suc i) ps) ≡ sum_ℤ (take i ps) +ℤ get_or ps i (pos 0) = rw (← add-one) (fold_more ◌+ℤ◌ (pos 0) ps i (pos 0) (omega arith)) in
    omega (arith, ints)

-- a sound offer leaves the covers together as they were
pub total_added : (covers : List ℕ) (ps : List ℤ) → Sound (length covers) ps → NoneShort covers ps → total (add_each covers ps) ≡ total covers
total_added covers ps s enough =
    let f = fronts covers ps s.long enough (length covers) (omega arith) in
    let l = add_each_length covers ps in
    let long = s.long in
    let a : take (length covers) (add_each covers ps) ≡ add_each covers ps = take_all (length covers) (add_each covers ps) (omega arith) in
    let b : take (length covers) covers ≡ covers = take_all (length covers) covers (omega arith) in
    let p : take (length covers) ps ≡ ps = take_all (length covers) ps (omega arith) in
    let g : pos (total (add_each covers ps)) ≡ pos (total covers) +ℤ sum_ℤ ps = simp (a, b, p) at f in
    let z = s.balanced in
    omega (arith, ints)

-- a sum that is acceptable leaves the covers together within their most
acceptable_room : (together amount : ℕ) → (leb 1 amount && (leb amount most_paid_in && leb (together + amount) most_together)) ≡ true
    → together + amount ≤ most_together
acceptable_room together amount e = grind (arith, nat_tests)

-- a pay-in that is taken is for a house, and leaves the covers together within their most
pub record Room (covers : List ℕ) (place amount : ℕ) : Type 0 where
  pub here : place < length covers
  pub room : total covers + amount ≤ most_together

pub room_for : (covers : List ℕ) (place amount : ℕ) (done : Unit {0}) → Ok done ≡ pay_in_answer covers place amount → Room covers place amount
room_for covers place amount done e =
    let p = paid_in covers place amount done e in
    record { here = p.0; room = acceptable_room (total covers) amount p.1 }
