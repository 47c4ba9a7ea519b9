-- The worst of the first houses.
use Rattle.std.proofs.Common.{◌≡◌, ℕ, ◌+◌, ◌<◌, Bool, false, ltb, List, length, get_or, Option, MatchOption, ℤ, pos, negsuc, ◌+ℤ◌, ◌≤ℤ◌, ◌<ℤ◌, sym, ap, subst, ◌∙◌, arith, below_more}
use Rattle.std.specs.Bool.{then_some}
use Rattle.std.specs.Int.Signed.{lt_z}
use Rattle.std.proofs.lemmas.Bool.Decides.{nat_tests}
use Rattle.std.proofs.lemmas.Int.{ints}
use Rattle.keeper.specs.Offers.{NoneShort}
use Rattle.books.specs.Naming.{IsShort, shortage, Worst, Greatest}

pub record WorstOf (covers : List ℕ) (ps : List ℤ) (n place : ℕ) : Type 0 where
  pub here : place < length covers
  pub greatest : (k : ℕ) → k < n → shortage covers ps k ≤ℤ shortage covers ps place
  pub first : (k : ℕ) → k < place → shortage covers ps k <ℤ shortage covers ps place

pub keeps : (covers : List ℕ) (ps : List ℤ) (n place : ℕ) → WorstOf covers ps n place → shortage covers ps n ≤ℤ shortage covers ps place
    → WorstOf covers ps (n + 1) place
keeps covers ps n place w le = record { here = w.here; greatest = below_more _ _ w.greatest le; first = w.first }

pub takes : (covers : List ℕ) (ps : List ℤ) (n place : ℕ) → n < length covers → WorstOf covers ps n place → shortage covers ps place <ℤ shortage covers ps n
    → WorstOf covers ps (n + 1) n
takes covers ps n place here w lt = record {
  here = here;
  greatest = below_more _ _ (λ k h. let g = w.greatest k h in omega (arith, ints)) (omega (arith, ints));
  first = λ k h. let g = w.greatest k h in omega (arith, ints);
}

pub all_of : (covers : List ℕ) (ps : List ℤ) (n place : ℕ) → n ≡ length covers → WorstOf covers ps n place → Worst covers ps place
all_of covers ps n place e w = record {
  here = w.here;
  greatest = λ k h. w.greatest k (omega arith);
  first = w.first;
}

-- the worst house is short, or no house is
pub worst_if_short : (covers : List ℕ) (ps : List ℤ) (place : ℕ) (r : Option ℕ) (left : ℤ) → Worst covers ps place
    → left ≡ pos (get_or covers place 0) +ℤ get_or ps place (pos 0) → r ≡ then_some (lt_z left (pos 0)) place
    → MatchOption r (NoneShort covers ps) (λ p. IsShort covers ps p × Greatest covers ps p)
worst_if_short covers ps place r (pos n) w e q =
    let z : ltb n 0 ≡ false = grind (arith, nat_tests) in
    subst (λ (x : Option ℕ). MatchOption x (NoneShort covers ps) (λ p. IsShort covers ps p × Greatest covers ps p)) (sym (q ∙ ap (λ (b : Bool). then_some b place) z))
    (λ k h lacks. let g = w.greatest k h in omega (arith, ints))
worst_if_short covers ps place r (negsuc n) w e q =
    let s : IsShort covers ps place = record { here = w.here; lacks = omega (arith, ints) } in
    subst (λ (x : Option ℕ). MatchOption x (NoneShort covers ps) (λ p. IsShort covers ps p × Greatest covers ps p)) (sym q)
    (s, record { short = s; worst = w })
