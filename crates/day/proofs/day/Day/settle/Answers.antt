use Rattle.std.proofs.Common.{ℕ, Bool, List, Ok, Err, IsOk, rules, inl, inr, refl}
use Rattle.keeper.specs.Offers.{OfferAnswer}
use Rattle.netting.specs.Outcomes.{Morning, MorningSettled}
use Rattle.records.specs.declared.recorded.Record.{Record}
use Rattle.day.proofs.Stores.{put_map, put_stamp}
use Rattle.day.proofs.day.Day.settle.Goals as goal

-- a morning that was not denied
taken : (rs : List Record) (marks : List Bool) (before : List ℕ) (sittings : ℕ) (after : List ℕ) (left : ℕ) (r : OfferAnswer)
    → IsOk r → MorningSettled rs marks before sittings after left r → Morning rs marks before sittings after left
taken rs marks before sittings after left (Ok done) a m = m
taken rs marks before sittings after left (Err denial) a m = cc

pub returns-in-Ok-clause-settles : goal.returns-in-Ok-clause-settles
returns-in-Ok-clause-settles g c = (
  search rules,
  inr record {
    due = search rules;
    booked = search rules;
    records = put_map _ _ _ _ _ (λ k r b says. search rules) c.put_where.ensures.records;
    phase = refl;
    remembered = refl;
  },
)

pub returns-in_ok-map_err-clause-settles : goal.returns-in_ok-map_err-clause-settles
returns-in_ok-map_err-clause-settles g c = (
  search rules,
  inl record {
    due = search rules;
    marks = c.choose.new.marks;
    morning = taken _ _ _ _ _ _ c.choose.result (search rules) c.choose.ensures.settled;
    records = put_stamp _ _ _ _ (λ k r b says. search rules) c.put_where-else-is_afternoon_calculated.ensures.records;
    phase = refl;
    remembered = refl;
  },
)
