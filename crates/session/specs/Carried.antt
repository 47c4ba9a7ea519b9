-- What each command leaves of the book, and is answered, from the book before and the book after. A command that needs
-- a book and has none cannot be carried out.
use Rattle.std.specs.Prelude.{◌≡◌, ℕ, List, ℤ, Some, None, Ok, Err, Option, Result}
use Rattle.books.specs.Opening.{Openable}
use Rattle.keeper.specs.Offers.{OfferAnswer, OfferAnswered, OfferDenied, covers_after, sittings_after}
use Rattle.keeper.specs.PayIns.{PayInAnswer, pay_in_answer, covers_paid, PayInDenied}
use Rattle.script.specs.declared.command.Kind.{Kind}
use Rattle.script.specs.declared.command.LineError.{LineError}
use Rattle.script.specs.declared.command.LineError.TheVariants.{NoBook, NoMemory}
use Rattle.session.specs.Books.{BookAnswer, kind_of, covers_in, sittings_in, pledges_in, pledges_at, Names}
use Rattle.session.specs.declared.any_book.AnyBook.{AnyBook}
use Rattle.session.specs.declared.answer.BookDenial.TheVariants.{BreaksRule}

-- there is a book, of this kind, with these sums as its covers, and as its pledges if it has some, and these sittings
pub record Holds (book : Option AnyBook) (kind : Kind) (covers : List ℕ) (sittings : ℕ) : Type 0 where
  pub held : AnyBook
  pub there : book ≡ Some held
  pub of_kind : kind_of held ≡ kind
  pub covers_are : covers_in held ≡ covers
  pub pledges_are : pledges_in held ≡ pledges_at kind covers
  pub sittings_are : sittings_in held ≡ sittings

-- a book is opened by the rules of opening; one that is denied, or that keeps them all and finds no memory, leaves the one before it
abbrev pub Opens : Kind → ℕ → List ℕ → Option AnyBook → Result BookAnswer LineError → Option AnyBook → Type 0
Opens kind sittings sums before (Ok (Ok opened)) after = Openable sums sittings × Holds after kind sums sittings
Opens kind sittings sums before (Ok (Err BreaksRule)) after = (Openable sums sittings → ⊥) × (after ≡ before)
Opens kind sittings sums before (Err e) after = Openable sums sittings × (e ≡ NoMemory) × (after ≡ before)

-- what needs a book is done with the book that is there; without one it cannot be done
abbrev pub WithBook : {X : Type 0} → (X → AnyBook → AnyBook → Type 0) → Option AnyBook → Result X LineError → Option AnyBook → Type 0
WithBook Done (Some b) (Ok answer) (Some c) = Done answer b c
WithBook Done (Some b) (Ok answer) None = ⊥
WithBook Done (Some b) (Err e) after = ⊥
WithBook Done None (Ok answer) after = ⊥
WithBook Done None (Err e) (Some c) = ⊥
WithBook Done None (Err e) None = e ≡ NoBook

-- an offer is made to a book, which it leaves as another
pub record Offered (ps : List ℤ) (answer : OfferAnswer) (b c : AnyBook) : Type 0 where
  pub answered : OfferAnswered (covers_in b) (sittings_in b) ps answer
  pub covers_after : covers_in c ≡ covers_after (covers_in b) ps answer
  pub sittings_after : sittings_in c ≡ sittings_after (sittings_in b) answer
  pub denied_alters_nothing : OfferDenied answer → c ≡ b
  pub same_kind : kind_of c ≡ kind_of b
  pub named : Names b ps answer
  pub pledges_stay : pledges_in c ≡ pledges_in b

-- a sum is paid in with a book, which it leaves as another
pub record PaidIn (place cents : ℕ) (answer : PayInAnswer) (b c : AnyBook) : Type 0 where
  pub answered : answer ≡ pay_in_answer (covers_in b) place cents
  pub covers_after : covers_in c ≡ covers_paid (covers_in b) place cents answer
  pub sittings_after : sittings_in c ≡ sittings_in b
  pub denied_alters_nothing : PayInDenied answer → c ≡ b
  pub same_kind : kind_of c ≡ kind_of b
  pub pledges_stay : pledges_in c ≡ pledges_in b
