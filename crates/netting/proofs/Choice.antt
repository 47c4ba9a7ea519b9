-- The laws of the greatest selection; a selection that holds the same payments is as good.
use Rattle.std.proofs.Common.{◌≡◌, ℕ, Bool, cond, ◌&&◌, List, length, sym, ap, ◌∙◌, arith}
use Rattle.std.specs.Cmp.{both_ways}
use Rattle.records.specs.Records.{record_at}
use Rattle.records.specs.declared.recorded.Record.{Record}
use Rattle.netting.specs.Sums.{sum_to}
use Rattle.netting.specs.Payments.{is_from, is_to}
use Rattle.netting.specs.Selections.{marked, Selection, Same, share, sent, received, Admissible, Chosen}
use Rattle.netting.specs.Laws.{OneGreatest, GreatestIsChosen, GrowsWithCovers, SameMorning}
use Rattle.netting.proofs.Totals.{sum_to_same}

-- selections that hold the same payments send and receive the same
side_same : (side : Record → ℕ → Bool) (rs : List Record) (S R : Selection) (h : ℕ) → Same rs S R
    → sum_to (share side rs S h) (length rs) ≡ sum_to (share side rs R h) (length rs)
side_same side rs S R h same =
    sum_to_same (share side rs S h) (share side rs R h) (length rs)
    (λ i l. ap (λ b. cond (b && side (record_at rs i) h) (record_at rs i).amount 0) (same i l))

pub sent_same : (rs : List Record) (S R : Selection) (h : ℕ) → Same rs S R → sent rs S h ≡ sent rs R h
sent_same rs S R h same = side_same is_from rs S R h same

pub received_same : (rs : List Record) (S R : Selection) (h : ℕ) → Same rs S R → received rs S h ≡ received rs R h
received_same rs S R h same = side_same is_to rs S R h same

pub admissible_same : (rs : List Record) (covers : List ℕ) (S R : Selection) → Same rs S R → Admissible rs covers S → Admissible rs covers R
admissible_same rs covers S R same ok =
    record {
      only = λ i l r. ok.only i l (same i l ∙ r);
      closed = λ i j li lj b w e r. sym (same i li) ∙ ok.closed i j li lj b w e (same j lj ∙ r);
      covered = λ h k.
          let a = sent_same rs S R h same in
          let b = received_same rs S R h same in
          let c = ok.covered h k in omega arith;
    }

pub chosen_same : (rs : List Record) (covers : List ℕ) (S R : Selection) → Same rs S R → Chosen rs covers S → Chosen rs covers R
chosen_same rs covers S R same g =
    record {
      admissible = admissible_same rs covers S R same g.admissible;
      if_same = λ A ok e. g.if_same A ok (λ i l. e i l ∙ sym (same i l));
      only_if_same = λ A ok h i l. g.only_if_same A ok h i l ∙ same i l;
    }

pub one_greatest : OneGreatest
one_greatest rs covers S R s r i l = both_ways (S i) (R i) (r.holds S s.admissible i l) (s.holds R r.admissible i l)

pub greatest_is_chosen : GreatestIsChosen
greatest_is_chosen rs covers S g =
    record {
      admissible = g.admissible;
      if_same = λ A ok e i l B fine b. e i l ∙ g.holds B fine i l b;
      only_if_same = λ A ok h i l. both_ways (A i) (S i) (g.holds A ok i l) (h i l S g.admissible);
    }

pub grows_with_covers : GrowsWithCovers
grows_with_covers rs before after S R more s r =
    r.holds S (record {
      only = s.admissible.only;
      closed = s.admissible.closed;
      covered = λ h l.
          let e = more.0 in
          let a = s.admissible.covered h (omega arith) in
          let b = more.1 h (omega arith) in omega arith;
    })

pub same_morning : SameMorning
same_morning rs covers marks marks' n n' left left' after after' a b =
    let same : Same rs (marked marks) (marked marks') = one_greatest rs covers (marked marks) (marked marks') a.greatest b.greatest in (
      same,
      λ h l.
          let s = sent_same rs (marked marks) (marked marks') h same in
          let r = received_same rs (marked marks) (marked marks') h same in
          let x = a.booked.covers h l in
          let y = b.booked.covers h l in omega arith,
    )
