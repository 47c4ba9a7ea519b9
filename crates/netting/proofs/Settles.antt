-- What the keeper's answer makes of the way.
use Rattle.std.proofs.Common.{◌≡◌, ℕ, Bool, List, length, ℤ, Ok, Err, refl, arith}
use Rattle.keeper.specs.Offers.{OfferAnswer, OfferAnswered, covers_after, sittings_after}
use Rattle.keeper.specs.declared.answer.OfferDenial.TheVariants.{Unsound, NoSitting, Short}
use Rattle.records.specs.declared.recorded.Record.{Record}
use Rattle.netting.specs.Payments.{waiting}
use Rattle.netting.specs.Selections.{marked, Same}
use Rattle.netting.specs.Steps.{Standing, InStep}
use Rattle.netting.specs.declared.selecting.Selected.{Selected}
use Rattle.netting.specs.Outcomes.{MorningSettled, AllOffered}
use Rattle.netting.proofs.Greatest.{greatest}
use Rattle.netting.proofs.Offers.{positions_sound, lacks_short, covered, booked}
use Rattle.netting.proofs.Choice.{sent_same, received_same}

module _ (rs : List Record) (marks : List Bool) (before : List ℕ) (n : ℕ) (xs : List ℤ) (step : InStep (length before) rs marks xs) where
  -- the keeper's last answer of the morning
  pub morning : (r : OfferAnswer) → Standing rs before (marked marks) → OfferAnswered before n xs r
      → ((p c : ℕ) → r ≡ Err (Short p c) → ⊥) → MorningSettled rs marks before n (covers_after before xs r) (sittings_after n r) r
  morning (Ok done) stands o no_short =
      record {
        greatest = greatest rs before (marked marks) stands (covered rs (marked marks) before xs step.at o.2);
        booked = booked rs (marked marks) before xs n step.at o.2 o.1;
      }
  morning (Err Unsound) stands o no_short =
      absurd (o (positions_sound rs (marked marks) (length before) xs step.listed step.only step.at))
  morning (Err NoSitting) stands o no_short = o.1
  morning (Err (Short p c)) stands o no_short = absurd (no_short p c refl)

  -- its answer to all that waits
  pub whole : (r : OfferAnswer) → Same rs (marked marks) (waiting rs) → OfferAnswered before n xs r
      → AllOffered rs before n (covers_after before xs r) (sittings_after n r) r
  whole (Ok done) same o =
      let b = booked rs (marked marks) before xs n step.at o.2 o.1 in
      record {
        houses = b.houses;
        covers = λ h l.
            let a = b.covers h l in
            let s = sent_same rs (marked marks) (waiting rs) h same in
            let t = received_same rs (marked marks) (waiting rs) h same in omega arith;
        one_used = b.one_used;
      }
  whole (Err Unsound) same o =
      absurd (o (positions_sound rs (marked marks) (length before) xs step.listed step.only step.at))
  whole (Err NoSitting) same o = o.1
  whole (Err (Short p c)) same o =
      let at = o.2 in
      let s = lacks_short rs (marked marks) (length before) xs p c step.at at.here at.lacks in
      let a = sent_same rs (marked marks) (waiting rs) p same in
      let b = received_same rs (marked marks) (waiting rs) p same in (
        o.1,
        record { here = at.here; cover_is = at.cover_is; above = omega arith },
      )

-- The same of a selection in the making, where the keeper's meaning, before and after, is known by equations.
module _ (s : Selected) (rs : List Record) (first before after : List ℕ) (k n left : ℕ) (xs : List ℤ) (r : OfferAnswer)
    (of : s.records.now ≡ rs) (houses : length s.positions.now ≡ length first) (ex : xs ≡ s.positions.now) (eb : before ≡ first) (en : n ≡ k)
    (o : OfferAnswered before n xs r) (ea : after ≡ covers_after before xs r) (el : left ≡ sittings_after n r) where
  in_step : InStep (length first) rs s.marks.now s.positions.now
  in_step = rw (of, houses) at s.in_step

  pub morning_known : (ms : List Bool) → ms ≡ s.marks.now → Standing rs first (marked s.marks.now) → ((p c : ℕ) → r ≡ Err (Short p c) → ⊥)
      → MorningSettled rs ms first k after left r
  morning_known ms em stands no_short =
      rw (em, ea, el, eb, en, ex) (morning rs s.marks.now first k s.positions.now in_step r stands (rw (eb, en, ex) at o) no_short)

  pub whole_known : Same rs (marked s.marks.now) (waiting rs) → AllOffered rs first k after left r
  whole_known same = rw (ea, el, eb, en, ex) (whole rs s.marks.now first k s.positions.now in_step r same (rw (eb, en, ex) at o))
