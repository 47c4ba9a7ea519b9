-- What the two settlements leave, answer for answer.
use Rattle.std.specs.Prelude.{◌≡◌, ℕ, suc, ◌+◌, ◌<◌, Bool, List, length, slice_index, Ok, Err}
use Rattle.keeper.specs.Offers.{OfferAnswer}
use Rattle.keeper.specs.declared.answer.OfferDenial.TheVariants.{Unsound, NoSitting, Short}
use Rattle.records.specs.declared.recorded.Record.{Record}
use Rattle.netting.specs.Payments.{waiting}
use Rattle.netting.specs.Selections.{Selection, marked, sent, received, debit, Greatest}

-- Every cover rose by what its house receives under the selection and fell by what it sends, and one of the sittings was used.
pub record Booked (rs : List Record) (S : Selection) (before : List ℕ) (sittings : ℕ) (after : List ℕ) (left : ℕ) : Type 0 where
  pub houses : length after ≡ length before
  pub covers : (h : ℕ) → h < length before → slice_index after h + sent rs S h ≡ slice_index before h + received rs S h
  pub one_used : suc left ≡ sittings

-- The morning: what the marks select is the greatest selection that the covers admit, and it is booked.
pub record Morning (rs : List Record) (marks : List Bool) (before : List ℕ) (sittings : ℕ) (after : List ℕ) (left : ℕ) : Type 0 where
  pub greatest : Greatest rs before (marked marks)
  pub booked : Booked rs (marked marks) before sittings after left

-- The answers of a morning: it is settled, or no sitting was left; no offer of it is unsound, and in the end no house is short.
abbrev pub MorningSettled : List Record → List Bool → List ℕ → ℕ → List ℕ → ℕ → OfferAnswer → Type 0
MorningSettled rs marks before sittings after left (Ok done) = Morning rs marks before sittings after left
MorningSettled rs marks before sittings after left (Err NoSitting) = sittings ≡ 0
MorningSettled rs marks before sittings after left (Err Unsound) = ⊥
MorningSettled rs marks before sittings after left (Err (Short place cover)) = ⊥

-- the house at the place has this cover, and its debit under all that waits is above it
pub record ShortOfAll (rs : List Record) (covers : List ℕ) (place cover : ℕ) : Type 0 where
  pub here : place < length covers
  pub cover_is : cover ≡ slice_index covers place
  pub above : cover < debit rs (waiting rs) place

-- All that waits at once: it is booked, or no sitting is left, or a house is short.
abbrev pub AllOffered : List Record → List ℕ → ℕ → List ℕ → ℕ → OfferAnswer → Type 0
AllOffered rs before sittings after left (Ok done) = Booked rs (waiting rs) before sittings after left
AllOffered rs before sittings after left (Err NoSitting) = sittings ≡ 0
AllOffered rs before sittings after left (Err Unsound) = ⊥
AllOffered rs before sittings after left (Err (Short place cover)) = (0 < sittings) × ShortOfAll rs before place cover
