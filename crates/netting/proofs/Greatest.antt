-- The greatest admissible selection: it stands when no house is short, and the latest payment of a short house may leave.
use Rattle.std.proofs.Common.{◌≡◌, ℕ, ◌+◌, ◌<◌, ◌≤◌, Bool, true, cond, ◌&&◌, List, length, get_or, sym, ap, ◌∙◌, inl, inr, arith}
use Rattle.std.proofs.lemmas.Bool.Decides.{nat_tests}
use Rattle.std.proofs.lemmas.Bool.{cases_Bool, both_ways, eqb-true}
use Rattle.netting.specs.Sums.{sum_to}
use Rattle.netting.specs.Payments.{is_from, is_to}
use Rattle.netting.specs.Selections.{Selection, Inside, share, sent, received, Only, Closed, Covered, Admissible, Greatest}
use Rattle.netting.specs.Steps.{Standing, Latest, NoneFrom, Without, count}
use Rattle.records.specs.Records.{record_at}
use Rattle.records.specs.declared.recorded.Record.{Record}
use Rattle.netting.proofs.Order.{earlier_some_way}
use Rattle.netting.proofs.Totals.{sum_to_le, sum_to_none, sum_to_but}

share_le : (side : Record → ℕ → Bool) (rs : List Record) (A S : Selection) (h i : ℕ)
    → (A i ≡ true → side (record_at rs i) h ≡ true → S i ≡ true) → share side rs A h i ≤ share side rs S h i
share_le side rs A S h i k =
    elim (cases_Bool (A i)) [
      | inl a ↦ elim (cases_Bool (side (record_at rs i) h)) [
        | inl e ↦ let s = k a e in grind (arith, nat_tests)
        | inr e ↦ grind (arith, nat_tests)
      ]
      | inr a ↦ grind (arith, nat_tests)
    ]

pub received_le : (rs : List Record) (A S : Selection) (h : ℕ) → Inside rs A S → received rs A h ≤ received rs S h
received_le rs A S h w =
    sum_to_le (share is_to rs A h) (share is_to rs S h) (length rs)
    (λ i l. share_le is_to rs A S h i (λ a _. w i l a))

pub sent_le : (rs : List Record) (A S : Selection) (h : ℕ)
    → ((i : ℕ) → i < length rs → A i ≡ true → (record_at rs i).sender ≡ h → S i ≡ true) → sent rs A h ≤ sent rs S h
sent_le rs A S h w =
    sum_to_le (share is_from rs A h) (share is_from rs S h) (length rs)
    (λ i l. share_le is_from rs A S h i (λ a e. w i l a (eqb-true (record_at rs i).sender h e)))

-- a selection within S that holds the latest payment of h in S holds all that S has of h
holds_all : (rs : List Record) (A S : Selection) (h p : ℕ) → Only rs S → Closed rs A → Latest rs S h p → A p ≡ true
    → (i : ℕ) → i < length rs → S i ≡ true → (record_at rs i).sender ≡ h → A i ≡ true
holds_all rs A S h p only closed latest a i l s e =
    elim (earlier_some_way rs i p) [
      | inl q ↦ ap A q ∙ a
      | inr w ↦ elim w [
        | inl before ↦ closed i p l latest.here before (only i l s) (e ∙ sym latest.his) a
        | inr after ↦ absurd (latest.last i l s e after)
      ]
    ]

-- so where h is short under S, no admissible selection within S holds that payment
none_holds : (rs : List Record) (covers : List ℕ) (A S : Selection) (h p : ℕ) → Only rs S → Admissible rs covers A → Inside rs A S
    → h < length covers → received rs S h + get_or covers h 0 < sent rs S h → Latest rs S h p → A p ≡ true → ⊥
none_holds rs covers A S h p only ok within k short latest a =
    let up = sent_le rs S A h (holds_all rs A S h p only ok.closed latest a) in
    let down = received_le rs A S h within in
    let fine = ok.covered h k in
    omega arith

pub standing_without : (rs : List Record) (covers : List ℕ) (S R : Selection) (h p : ℕ) → Standing rs covers S
    → h < length covers → received rs S h + get_or covers h 0 < sent rs S h → Latest rs S h p → Without S p R
    → Standing rs covers R
standing_without rs covers S R h p stands k short latest out =
    record {
      only = λ i l held.
          let ne : i ≡ p → ⊥ = λ q. both_ways (R i) (ap R q ∙ out.gone) held in
          stands.only i l (sym (out.rest i ne) ∙ held);
      closed = λ i j li lj before w same held.
          let ne : j ≡ p → ⊥ = λ q. both_ways (R j) (ap R q ∙ out.gone) held in
          let was : S j ≡ true = sym (out.rest j ne) ∙ held in
          let his : S i ≡ true = stands.closed i j li lj before w same was in
          let other : i ≡ p → ⊥ = λ q.
          latest.last j lj was (sym same ∙ ap (λ x. (record_at rs x).sender) q ∙ latest.his)
          (rw (← q) before) in
          out.rest i other ∙ his;
      holds = λ A ok i l a.
          let within : Inside rs A S = stands.holds A ok in
          let other : i ≡ p → ⊥ = λ q. none_holds rs covers A S h p stands.only ok within k short latest (ap A (sym q) ∙ a) in
          out.rest i other ∙ within i l a;
    }

pub greatest : (rs : List Record) (covers : List ℕ) (S : Selection) → Standing rs covers S → Covered rs covers S
    → Greatest rs covers S
greatest rs covers S stands covered =
    record { admissible = record { only = stands.only; closed = stands.closed; covered = covered }; holds = stands.holds }

-- a house that is short sends something
pub short_sends : (rs : List Record) (S : Selection) (h : ℕ) → NoneFrom rs S h 0 → sent rs S h ≡ 0
short_sends rs S h none =
    sum_to_none (share is_from rs S h) (length rs) (λ i l.
    elim (cases_Bool (S i)) [
      | inl a ↦ let ne = none i (omega arith) l a in grind (arith, nat_tests)
      | inr a ↦ grind (arith, nat_tests)
    ])

-- what the payment at p took with it
pub share_without : (side : Record → ℕ → Bool) (rs : List Record) (S R : Selection) (h p : ℕ) → p < length rs → S p ≡ true → Without S p R
    → sum_to (share side rs S h) (length rs)
    ≡ sum_to (share side rs R h) (length rs) + cond (side (record_at rs p) h) (record_at rs p).amount 0
share_without side rs S R h p l s out =
    let g = out.gone in
    sum_to_but (share side rs S h) (share side rs R h) p (cond (side (record_at rs p) h) (record_at rs p).amount 0) (length rs) l
    (grind (arith, nat_tests))
    (λ i k ne. let e = out.rest i ne in ap (λ b. cond (b && side (record_at rs i) h) (record_at rs i).amount 0) (sym e))

pub count_without : (rs : List Record) (S R : Selection) (p : ℕ) → p < length rs → S p ≡ true → Without S p R
    → count rs S ≡ count rs R + 1
count_without rs S R p l s out =
    let g = out.gone in
    sum_to_but (λ i. cond (S i) 1 0) (λ i. cond (R i) 1 0) p 1 (length rs) l (grind (arith, nat_tests))
    (λ i k ne. let e = out.rest i ne in ap (λ b. cond b 1 0) (sym e))
