-- The number of each answer: 0 where the call was carried out, else the denial's.
use Rattle.std.specs.Prelude.{ℕ, Result, Ok, Err}
use Rattle.keeper.specs.Covers.{CoverAnswer}
use Rattle.keeper.specs.Offers.{OfferAnswer}
use Rattle.keeper.specs.PayIns.{PayInAnswer}
use Rattle.keeper.specs.declared.answer.OfferDenial.{OfferDenial}
use Rattle.keeper.specs.declared.answer.OfferDenial.TheVariants as offer
use Rattle.keeper.specs.declared.answer.PayInDenial.{PayInDenial}
use Rattle.keeper.specs.declared.answer.PayInDenial.TheVariants as paid
use Rattle.keeper.specs.declared.answer.CoverDenial.{CoverDenial}
use Rattle.keeper.specs.declared.answer.CoverDenial.TheVariants as question

-- the number of any answer, from the number of each denial
abbrev pub outcome_number : {T D : Type 0} → (D → ℕ) → Result T D → ℕ
outcome_number number_of (Ok x) = 0
outcome_number number_of (Err denial) = number_of denial

abbrev pub offer_denial_number : OfferDenial → ℕ
offer_denial_number offer.Unsound = 21
offer_denial_number offer.NoSitting = 16
offer_denial_number (offer.Short place cover) = 17

abbrev pub pay_in_denial_number : PayInDenial → ℕ
pay_in_denial_number paid.NoSuchHouse = 1
pay_in_denial_number paid.Refused = 19

abbrev pub cover_denial_number : CoverDenial → ℕ
cover_denial_number question.NoSuchHouse = 1

abbrev pub offer_number : OfferAnswer → ℕ
offer_number answer = outcome_number offer_denial_number answer

abbrev pub pay_in_number : PayInAnswer → ℕ
pay_in_number answer = outcome_number pay_in_denial_number answer

abbrev pub cover_number : CoverAnswer → ℕ
cover_number answer = outcome_number cover_denial_number answer
