-- A search among the numbers. Assumes nothing.
use Rattle.std.proofs.Common.{◌≡◌, ℕ, ◌+◌, ◌<◌, ◌≤◌, Bool, true, false, List, length, get_or, is_some, Some, None, Option, Ordering, Less, Equal, Greater, refl, ap, ◌∙◌, subst, ⊎_elim, arith}
use Rattle.std.specs.Cmp.{IsTotalOrder, tied_itself}
use Rattle.std.specs.Cmp.Lexicographic.{options_total}
use Rattle.std.specs.Ordering.{is_eq, is_lt, is_gt, ordering_reverse, ordering_index}
use Rattle.std.specs.Option.{option_cmp}
use Rattle.std.specs.List.{HoldsAt}
use Rattle.std.specs.List.Sorted.{IsNonDecreasingBy, IsPartitionPoint}
use Rattle.std.proofs.Math.Path.{fun_ext}
use Rattle.std.proofs.lemmas.List.Sorted.{searchable_from_sorted}
use Rattle.std.proofs.lemmas.List.{get_or_default}
use Rattle.std.proofs.lemmas.Bool.{false≢true, cases_lt}
use Rattle.index.specs.Order.{key_of, key_at, less, precedes, Indexed, Gap, Holds, Lacks}
use Rattle.index.proofs.Optional.{precedes_irreflexive}
use Rattle.index.proofs.Listed.{stands, standing}

-- where k has a gap, it stands nowhere
pub lacks : {K : Type 0} (before : K → K → Bool) (ks : List (Option K)) (ns : List ℕ) (k : K) → ((x : K) → before x x ≡ false) → (p : ℕ) → Gap before ks ns k p → Lacks ks ns k
lacks before ks ns k irrefl p gap n h same =
    let at = standing ns n h in
    let i : ℕ = at.0 in
    let is : key_at ks ns i ≡ Some k = ap (key_of ks) at.2 ∙ same in
    let never = precedes_irreflexive before irrefl (Some k) in
    ⊎_elim
    (λ lt. never (subst (λ x. precedes before x (Some k) ≡ true) is (gap.lower i lt)))
    (λ ge. never (subst (λ x. precedes before (Some k) x ≡ true) is (gap.upper i ge at.1)))
    (cases_lt i p)

-- a comparison that answers by an order is that order
pub ordered_is : {K : Type 0} (cmp : K → K → Ordering) (before : K → K → Bool) → ((x y : K) → less cmp x y ≡ before x y) → less cmp ≡ before
ordered_is cmp before ordered = fun_ext (λ x. fun_ext (λ y. ordered x y))

-- an order turned round
turned : (r : Ordering) → is_lt r ≡ true → is_lt (ordering_reverse r) ≡ false
turned Less h = refl
turned Equal h = refl
turned Greater h = absurd (false≢true h)

module _ {K : Type 0} {cmp : K → K → Ordering} (o : IsTotalOrder cmp) where
  -- what a comparison of optional keys says of their order
  not_after : (a b : Option K) → precedes (less cmp) a b ≡ true → is_lt (option_cmp cmp b a) ≡ false
  not_after None b h = absurd (false≢true h)
  not_after (Some x) None h = absurd (false≢true h)
  not_after (Some x) (Some y) h = ap is_lt (o.antisymm y x) ∙ turned (cmp x y) h

  earlier : (a : Option K) (k : K) → is_some a ≡ true → option_cmp cmp a (Some k) ≡ Less → precedes (less cmp) a (Some k) ≡ true
  earlier None k some h = absurd (false≢true some)
  earlier (Some x) k some h = ap is_lt h

  later : (a : Option K) (k : K) → option_cmp cmp a (Some k) ≡ Greater → precedes (less cmp) (Some k) a ≡ true
  later None k h = absurd (false≢true (ap is_gt h))
  later (Some x) k h = ap is_lt (o.antisymm k x ∙ ap ordering_reverse h)

  same_key : (alike : (x y : K) → cmp x y ≡ Equal → x ≡ y) (a : Option K) (k : K) → option_cmp cmp a (Some k) ≡ Equal → a ≡ Some k
  same_key alike None k h = absurd (false≢true (ap is_eq h))
  same_key alike (Some x) k h = ap (λ y. Some y) (alike x k h)

  module _ (ks : List (Option K)) (ns : List ℕ) (k : K) where
    abbrev answer : ℕ → Ordering
    answer n = option_cmp cmp (key_of ks n) (Some k)

    -- the answers of the search rise along the numbers
    rises : Indexed (less cmp) ks ns → IsNonDecreasingBy (λ n. ordering_index (answer n)) ns
    rises held = searchable_from_sorted (options_total o) (key_of ks) ns (Some k) (λ i d _ h.
        let first : i < length ns = omega arith in
        ap (λ n. is_lt (option_cmp cmp (key_of ks n) (key_of ks (get_or ns i d)))) (get_or_default ns (i + 1) d 0 h)
        ∙ ap (λ n. is_lt (option_cmp cmp (key_at ks ns (i + 1)) (key_of ks n))) (get_or_default ns i d 0 first)
        ∙ not_after (key_at ks ns i) (key_at ks ns (i + 1)) (held.1 i (i + 1) (omega arith, h)))

    -- where it has found the key, and where it has found none
    pub found : ((x y : K) → cmp x y ≡ Equal → x ≡ y) → (p : ℕ) → p < length ns → HoldsAt (λ n. answer n ≡ Equal) ns p → Holds ks ns k (get_or ns p 0)
    found alike p within at = record { among = stands ns (get_or ns p 0) p within refl; same = same_key alike (key_at ks ns p) k (at 0) }

    pub missed : Indexed (less cmp) ks ns → (p : ℕ) → p ≤ length ns → (IsNonDecreasingBy (λ n. ordering_index (answer n)) ns → IsPartitionPoint (λ n. answer n ≡ Less) (λ n. answer n ≡ Greater) ns p) → Gap (less cmp) ks ns k p × Lacks ks ns k
    missed held p within parted =
        let at = parted (rises held) in
        let gap : Gap (less cmp) ks ns k p = record {
          place = within;
          lower = λ i h. earlier (key_at ks ns i) k (held.0 i (omega arith)) (at.0 i 0 (omega arith) h);
          upper = λ i g h. later (key_at ks ns i) k (at.1 i 0 g h);
        } in
        (gap, lacks (less cmp) ks ns k (λ x. ap is_lt (tied_itself o x)) p gap)
