-- Any run of offers and pay-ins on one keeper, and what it leaves.
use Rattle.std.specs.Prelude.{◌≡◌, ℕ, zero, suc, ◌+◌, ◌<◌, Bool, cond, List, [], ◌∷◌, length, ℤ, pos, ◌+ℤ◌, ◌==◌, slice_index, slice_index_or, Err}
use Rattle.keeper.specs.Numbers.{offer_number, pay_in_number}
use Rattle.keeper.specs.Offers.{OfferAnswered, OfferDenied, covers_after, sittings_after}
use Rattle.keeper.specs.PayIns.{pay_in_answer, covers_paid, PayInDenied}
use Rattle.keeper.specs.declared.answer.OfferDenial.TheVariants.{Unsound}
use Rattle.keeper.specs.declared.step.Step.{Step}
use Rattle.keeper.specs.declared.step.Step.TheVariants.{Offer, PayIn}
use Rattle.keeper.specs.declared.step.StepAnswer.{StepAnswer}
use Rattle.keeper.specs.declared.step.StepAnswer.TheVariants as answer

-- what a keeper means
pub record Standing : Type 0 where
  pub covers : List ℕ
  pub sittings : ℕ

-- one step with its answer
pub record Event : Type 0 where
  pub step : Step
  pub answer : StepAnswer

-- the first n steps, with what they were answered, the latest first
abbrev pub history : List Step → List StepAnswer → ℕ → List Event
history steps answers zero = []
history steps answers (suc n) =
    record { step = slice_index_or steps n (PayIn 0 0); answer = slice_index_or answers n (answer.Offer (Err Unsound)) } ∷ history steps answers n

-- what a step does to the keeper, and is answered: what the promises of `offer` and `pay_in` say
abbrev pub Does : Step → StepAnswer → Standing → Standing → Type 0
Does (Offer ps) (answer.Offer r) a b =
    OfferAnswered a.covers a.sittings ps.now r × (b.covers ≡ covers_after a.covers ps.now r) × (b.sittings ≡ sittings_after a.sittings r)
Does (Offer ps) (answer.PayIn r) a b = ⊥
Does (PayIn place amount) (answer.Offer r) a b = ⊥
Does (PayIn place amount) (answer.PayIn r) a b =
    (r ≡ pay_in_answer a.covers place amount) × (b.covers ≡ covers_paid a.covers place amount r) × (b.sittings ≡ a.sittings)

-- an answer that denies the step
abbrev pub StepDenied : StepAnswer → Type 0
StepDenied (answer.Offer r) = OfferDenied r
StepDenied (answer.PayIn r) = PayInDenied r

-- the events lead from one standing to the other
abbrev pub Ran : Standing → List Event → Standing → Type 0
Ran first [] last = last ≡ first
Ran first (e ∷ es) last = (mid : Standing) × Ran first es mid × Does e.step e.answer mid last

-- a step is taken if it is answered 0
abbrev pub taken : StepAnswer → Bool
taken (answer.Offer r) = offer_number r == 0
taken (answer.PayIn r) = pay_in_number r == 0

-- what a taken pay-in is for the house h
abbrev pub paid_to : ℕ → Step → ℕ
paid_to h (Offer ps) = 0
paid_to h (PayIn place amount) = cond (place == h) amount 0

-- the house's position in an offer
abbrev pub position_in : ℕ → Step → ℤ
position_in h (Offer ps) = slice_index_or ps.now h (pos 0)
position_in h (PayIn place amount) = pos 0

-- an offer is made at a sitting
abbrev pub sitting_of : Step → ℕ
sitting_of (Offer ps) = 1
sitting_of (PayIn place amount) = 0

-- sums over the events that were taken
abbrev pub over_taken : (Step → ℕ) → List Event → ℕ
over_taken f [] = 0
over_taken f (e ∷ es) = cond (taken e.answer) (f e.step) 0 + over_taken f es

abbrev pub over_taken_ℤ : (Step → ℤ) → List Event → ℤ
over_taken_ℤ f [] = pos 0
over_taken_ℤ f (e ∷ es) = cond (taken e.answer) (f e.step) (pos 0) +ℤ over_taken_ℤ f es

-- The law: each house's cover is its cover at the start, with its taken pay-ins and its positions in the taken offers;
-- and as many sittings are used as offers were taken.
pub record Accounted (first : Standing) (events : List Event) (last : Standing) : Type 0 where
  pub houses : length last.covers ≡ length first.covers
  pub cover : (h : ℕ) → h < length first.covers
      → pos (slice_index last.covers h) ≡ (pos (slice_index first.covers h) +ℤ pos (over_taken (paid_to h) events)) +ℤ over_taken_ℤ (position_in h) events
  pub sittings : last.sittings + over_taken sitting_of events ≡ first.sittings

-- it was a run, and the law holds of it
pub record Carried (first : Standing) (events : List Event) (last : Standing) : Type 0 where
  pub ran : Ran first events last
  pub accounted : Accounted first events last
