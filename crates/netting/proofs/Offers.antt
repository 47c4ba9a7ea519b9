-- The positions of a selection make a sound offer, and what the keeper says of them is said of the selection.
use Rattle.std.proofs.Common.{◌≡◌, ℕ, zero, suc, ◌+◌, ◌-◌, ◌<◌, ◌≤◌, Bool, true, false, cond, ◌&&◌, List, length, get_or, take, ℤ, pos, ◌+ℤ◌, ◌-ℤ◌, Some, None, Option, sym, refl, ap, ◌∙◌, inl, inr, add-one, arith, MatchOption}
use Rattle.std.proofs.lemmas.Bool.Decides.{nat_tests}
use Rattle.std.proofs.lemmas.Bool.{cases_lt, cases_Bool}
use Rattle.std.proofs.lemmas.Int.{ints}
use Rattle.std.proofs.lemmas.List.Sums.{fold_more}
use Rattle.std.proofs.lemmas.List.{take_all}
use Rattle.keeper.proofs.Added.{add_each_at, add_each_length}
use Rattle.keeper.specs.Offers.{position_limit, sum_ℤ, Sound, Lacks, NoneShort, add_each}
use Rattle.records.specs.Records.{record_at}
use Rattle.records.specs.declared.recorded.Record.{Record}
use Rattle.netting.specs.Sums.{sum_to}
use Rattle.netting.specs.Payments.{most_cents, is_from, is_house, is_to, Listed}
use Rattle.netting.specs.Selections.{Selection, share, sent, received, Only, Covered, Positions}
use Rattle.netting.specs.Outcomes.{Booked}
use Rattle.netting.proofs.Totals.{sum_to_same, sum_to_none, sum_to_bound, sum_to_swap, sum_to_one}

fronts : (xs : List ℤ) (r s : ℕ → ℕ) → ((h : ℕ) → h < length xs → get_or xs h (pos 0) ≡ pos (r h) -ℤ pos (s h))
    → (i : ℕ) → i ≤ length xs → sum_ℤ (take i xs) ≡ pos (sum_to r i) -ℤ pos (sum_to s i)
fronts xs r s each zero l = refl
fronts xs r s each (suc i) l =
    let ih = fronts xs r s each i (omega arith) in
    let at = each i (omega arith) in
    let p : sum_ℤ (take (suc i) xs) ≡ sum_ℤ (take i xs) +ℤ get_or xs i (pos 0) = rw (← add-one) (fold_more ◌+ℤ◌ (pos 0) xs i (pos 0) (omega arith)) in
    omega (arith, ints)

-- of the houses one sends it, and one receives it
one_sender : (r : Record) (n : ℕ) (b : Bool) → (b ≡ true → r.sender < n) → sum_to (λ h. cond (b && is_from r h) r.amount 0) n ≡ cond b r.amount 0
one_sender r n false l = sum_to_none (λ h. 0) n (λ i k. refl)
one_sender r n true l = sum_to_one r.sender r.amount n (l refl)

one_receiver : (o : Option ℕ) (P : ℕ → Type 0) (a n : ℕ) (b : Bool) → (b ≡ true → MatchOption o ⊥ (λ h. (h < n) × P h))
    → sum_to (λ h. cond (b && is_house o h) a 0) n ≡ cond b a 0
one_receiver o P a n false l = sum_to_none (λ h. 0) n (λ i k. refl)
one_receiver None P a n true l = absurd (l refl)
one_receiver (Some t) P a n true l = sum_to_one t a n (l refl).0

-- what all houses send, or receive, is what is selected
by_side : (side : Record → ℕ → Bool) (rs : List Record) (S : Selection) (n : ℕ)
    → ((i : ℕ) → i < length rs → sum_to (λ h. share side rs S h i) n ≡ cond (S i) (record_at rs i).amount 0)
    → sum_to (λ h. sum_to (share side rs S h) (length rs)) n ≡ sum_to (λ i. cond (S i) (record_at rs i).amount 0) (length rs)
by_side side rs S n one =
    sum_to_swap (share side rs S) n (length rs)
    ∙ sum_to_same (λ i. sum_to (λ h. share side rs S h i) n) (λ i. cond (S i) (record_at rs i).amount 0) (length rs) one

balanced : (rs : List Record) (S : Selection) (n : ℕ) (xs : List ℤ) → Listed n rs → Only rs S → Positions rs S n xs → sum_ℤ xs ≡ pos 0
balanced rs S n xs listed only at =
    let e = at.long in
    let all = fronts xs (received rs S) (sent rs S) (λ h l. at.each h (omega arith)) n (omega arith) in
    let t : take n xs ≡ xs = take_all n xs (omega arith) in
    let f : sum_ℤ xs ≡ pos (sum_to (received rs S) n) -ℤ pos (sum_to (sent rs S) n) = ap sum_ℤ (sym t) ∙ all in
    let a : sum_to (received rs S) n ≡ sum_to (λ i. cond (S i) (record_at rs i).amount 0) (length rs) = by_side is_to rs S n (λ i l. one_receiver (record_at rs i).receiver (λ h. h ≡ (record_at rs i).sender → ⊥) (record_at rs i).amount n (S i) (λ s. (listed.each i l (only i l s)).to)) in
    let b : sum_to (sent rs S) n ≡ sum_to (λ i. cond (S i) (record_at rs i).amount 0) (length rs) = by_side is_from rs S n (λ i l. one_sender (record_at rs i) n (S i) (λ s. (listed.each i l (only i l s)).from)) in
    omega (arith, ints)

side_bound : (side : Record → ℕ → Bool) (rs : List Record) (S : Selection) (n h : ℕ) → Listed n rs → Only rs S
    → sum_to (share side rs S h) (length rs) ≤ position_limit
side_bound side rs S n h listed only =
    let few = listed.few in
    let b = sum_to_bound (share side rs S h) most_cents (length rs) (λ i l. elim (cases_Bool (S i)) [
      | inl s ↦ let k = (listed.each i l (only i l s)).small in grind (arith, nat_tests)
      | inr s ↦ grind (arith, nat_tests)
    ]) in
    omega arith

pub sent_bound : (rs : List Record) (S : Selection) (n h : ℕ) → Listed n rs → Only rs S → sent rs S h ≤ position_limit
sent_bound rs S n h listed only = side_bound is_from rs S n h listed only

pub received_bound : (rs : List Record) (S : Selection) (n h : ℕ) → Listed n rs → Only rs S → received rs S h ≤ position_limit
received_bound rs S n h listed only = side_bound is_to rs S n h listed only

pub positions_sound : (rs : List Record) (S : Selection) (n : ℕ) (xs : List ℤ) → Listed n rs → Only rs S → Positions rs S n xs → Sound n xs
positions_sound rs S n xs listed only at =
    record {
      long = at.long;
      balanced = balanced rs S n xs listed only at;
      within = λ h l.
          let e = at.each h (let f = at.long in omega arith) in
          let a = sent_bound rs S n h listed only in
          let b = received_bound rs S n h listed only in
          (omega (arith, ints), omega (arith, ints));
    }

-- a house lacks cover where it sends more than it receives and has
pub lacks_short : (rs : List Record) (S : Selection) (n : ℕ) (xs : List ℤ) (h cover : ℕ) → Positions rs S n xs → h < n
    → Lacks cover (get_or xs h (pos 0)) → received rs S h + cover < sent rs S h
lacks_short rs S n xs h cover at l lacks =
    let e = at.each h l in omega (arith, ints)

pub short_lacks : (rs : List Record) (S : Selection) (n : ℕ) (xs : List ℤ) (h cover : ℕ) → Positions rs S n xs → h < n
    → received rs S h + cover < sent rs S h → Lacks cover (get_or xs h (pos 0))
short_lacks rs S n xs h cover at l short =
    let e = at.each h l in omega (arith, ints)

pub covered : (rs : List Record) (S : Selection) (covers : List ℕ) (xs : List ℤ) → Positions rs S (length covers) xs
    → NoneShort covers xs → Covered rs covers S
covered rs S covers xs at none h l =
    elim (cases_lt (received rs S h + get_or covers h 0) (sent rs S h)) [
      | inl short ↦ absurd (none h l (short_lacks rs S (length covers) xs h (get_or covers h 0) at l short))
      | inr fine ↦ omega arith
    ]

pub booked : (rs : List Record) (S : Selection) (before : List ℕ) (xs : List ℤ) (sittings : ℕ) → Positions rs S (length before) xs
    → NoneShort before xs → 0 < sittings → Booked rs S before sittings (add_each before xs) (sittings - 1)
booked rs S before xs sittings at none some =
    record {
      houses = add_each_length before xs;
      covers = λ h l.
          let e = at.each h l in
          let m = add_each_at before xs at.long none h l in
          omega (arith, ints);
      one_used = omega arith;
    }
