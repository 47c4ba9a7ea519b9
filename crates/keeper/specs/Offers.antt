-- An offer: a list of signed positions, one a house by place. A house with a positive position is to receive so much, one
-- with a negative position, a debit, is to pay it.
use Rattle.std.specs.Prelude.{◌≡◌, ℕ, suc, ◌+◌, ◌-◌, ◌<◌, List, [], ◌∷◌, length, ℤ, pos, negsuc, ◌+ℤ◌, neg_ℤ, ◌≤ℤ◌, ◌<ℤ◌, fold, slice_index, slice_index_or, Result, Ok, Err, IsErr}
use Rattle.keeper.specs.declared.answer.OfferDenial.{OfferDenial}
use Rattle.keeper.specs.declared.answer.OfferDenial.TheVariants.{Unsound, NoSitting, Short}

-- what an offer is answered
abbrev pub OfferAnswer : Type 0
OfferAnswer = Result (Unit {0}) OfferDenial

-- no position is further from 0 than this
abbrev pub position_limit : ℕ
position_limit = 4096000000000

abbrev pub WithinLimit : ℤ → Type 0
WithinLimit p = (neg_ℤ (pos position_limit) ≤ℤ p) × (p ≤ℤ pos position_limit)

abbrev pub AllWithinLimit : List ℤ → Type 0
AllWithinLimit ps = (k : ℕ) → k < length ps → WithinLimit (slice_index_or ps k (pos 0))

-- the positions together
abbrev pub sum_ℤ : List ℤ → ℤ
sum_ℤ ps = fold ◌+ℤ◌ (pos 0) ps

-- one position a house, together 0, each within the limit
pub record Sound (houses : ℕ) (ps : List ℤ) : Type 0 where
  pub long : length ps ≡ houses
  pub balanced : sum_ℤ ps ≡ pos 0
  pub within : AllWithinLimit ps

-- the house's debit is above its cover
abbrev pub Lacks : ℕ → ℤ → Type 0
Lacks cover p = (pos cover +ℤ p) <ℤ pos 0

abbrev pub NoneShort : List ℕ → List ℤ → Type 0
NoneShort covers ps = (k : ℕ) → k < length covers → Lacks (slice_index covers k) (slice_index_or ps k (pos 0)) → ⊥

-- the house at the place is short, and has this cover
pub record ShortAt (covers : List ℕ) (ps : List ℤ) (place cover : ℕ) : Type 0 where
  pub here : place < length covers
  pub cover_is : cover ≡ slice_index covers place
  pub lacks : Lacks cover (slice_index_or ps place (pos 0))

-- What an offer is answered, by a keeper with these covers and sittings: no two of the cases can hold of one offer, but for the
-- choice of the house that Short names.
abbrev pub OfferAnswered : List ℕ → ℕ → List ℤ → OfferAnswer → Type 0
OfferAnswered covers sittings ps (Err Unsound) = Sound (length covers) ps → ⊥
OfferAnswered covers sittings ps (Err NoSitting) = Sound (length covers) ps × (sittings ≡ 0)
OfferAnswered covers sittings ps (Err (Short place cover)) = Sound (length covers) ps × (0 < sittings) × ShortAt covers ps place cover
OfferAnswered covers sittings ps (Ok done) = Sound (length covers) ps × (0 < sittings) × NoneShort covers ps

-- the cover with the position added; a debit is taken from it
abbrev pub moved : ℕ → ℤ → ℕ
moved cover (pos n) = cover + n
moved cover (negsuc n) = cover - suc n

-- each position added to its cover
abbrev pub add_each : List ℕ → List ℤ → List ℕ
add_each [] ps = []
add_each (c ∷ cs) [] = c ∷ cs
add_each (c ∷ cs) (p ∷ ps) = moved c p ∷ add_each cs ps

-- the covers, and the sittings, after an offer that was answered so
abbrev pub covers_after : List ℕ → List ℤ → OfferAnswer → List ℕ
covers_after covers ps (Ok done) = add_each covers ps
covers_after covers ps (Err denial) = covers

abbrev pub sittings_after : ℕ → OfferAnswer → ℕ
sittings_after sittings (Ok done) = sittings - 1
sittings_after sittings (Err denial) = sittings

-- an answer that denies the offer
abbrev pub OfferDenied : OfferAnswer → Type 0
OfferDenied answer = IsErr answer
