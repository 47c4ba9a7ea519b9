-- Which short house a book names.
use Rattle.std.specs.Prelude.{ℕ, ◌<◌, List, length, ℤ, pos, ◌+ℤ◌, neg_ℤ, ◌≤ℤ◌, ◌<ℤ◌, slice_index, slice_index_or, Ok, Err}
use Rattle.keeper.specs.Offers.{OfferAnswer, Lacks}
use Rattle.keeper.specs.declared.answer.OfferDenial.TheVariants.{Unsound, NoSitting, Short}

-- the house at the place is short
pub record IsShort (covers : List ℕ) (ps : List ℤ) (place : ℕ) : Type 0 where
  pub here : place < length covers
  pub lacks : Lacks (slice_index covers place) (slice_index_or ps place (pos 0))

-- it is short, and no house of a lower place is
pub record Lowest (covers : List ℕ) (ps : List ℤ) (place : ℕ) : Type 0 where
  pub short : IsShort covers ps place
  pub first : (k : ℕ) → k < place → Lacks (slice_index covers k) (slice_index_or ps k (pos 0)) → ⊥

-- how much the debit of the house at a place is above its cover
abbrev pub shortage : List ℕ → List ℤ → ℕ → ℤ
shortage covers ps place = neg_ℤ (pos (slice_index covers place) +ℤ slice_index_or ps place (pos 0))

-- no house has a greater shortage, and none of a lower place has as great a one
pub record Worst (covers : List ℕ) (ps : List ℤ) (place : ℕ) : Type 0 where
  pub here : place < length covers
  pub greatest : (k : ℕ) → k < length covers → shortage covers ps k ≤ℤ shortage covers ps place
  pub first : (k : ℕ) → k < place → shortage covers ps k <ℤ shortage covers ps place

-- it is short, and the worst
pub record Greatest (covers : List ℕ) (ps : List ℤ) (place : ℕ) : Type 0 where
  pub short : IsShort covers ps place
  pub worst : Worst covers ps place

-- the house that an answer names, if it names one, is such
abbrev pub Names : (List ℕ → List ℤ → ℕ → Type 0) → List ℕ → List ℤ → OfferAnswer → Type 0
Names Such covers ps (Err (Short place cover)) = Such covers ps place
Names Such covers ps (Ok done) = Unit {0}
Names Such covers ps (Err Unsound) = Unit {0}
Names Such covers ps (Err NoSitting) = Unit {0}

abbrev pub NamesLowest : List ℕ → List ℤ → OfferAnswer → Type 0
NamesLowest = Names Lowest

abbrev pub NamesGreatest : List ℕ → List ℤ → OfferAnswer → Type 0
NamesGreatest = Names Greatest
