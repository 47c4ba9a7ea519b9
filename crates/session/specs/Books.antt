-- What a book of any kind means: its kind, its covers, the sittings that are left, its pledges, and which short house it names.
use Rattle.std.specs.Prelude.{ℕ, List, [], map, ℤ, vec_items, Result}
use Rattle.books.specs.Naming.{NamesLowest, NamesGreatest}
use Rattle.keeper.specs.Numbers.{outcome_number}
use Rattle.keeper.specs.Offers.{OfferAnswer, moved}
use Rattle.script.specs.declared.command.Kind.{Kind}
use Rattle.script.specs.declared.command.Kind.TheVariants as kind
use Rattle.session.specs.declared.any_book.AnyBook.{AnyBook}
use Rattle.session.specs.declared.any_book.AnyBook.TheVariants.{Account, Guarantee}
use Rattle.session.specs.declared.answer.BookDenial.{BookDenial}
use Rattle.session.specs.declared.answer.BookDenial.TheVariants.{BreaksRule}

abbrev pub kind_of : AnyBook → Kind
kind_of (Account b) = kind.Account
kind_of (Guarantee b) = kind.Guarantee

abbrev pub covers_in : AnyBook → List ℕ
covers_in (Account b) = map (λ a. a.cents) (vec_items b.accounts)
covers_in (Guarantee b) = map (λ a. moved a.pledge a.sum) (vec_items b.accounts)

abbrev pub sittings_in : AnyBook → ℕ
sittings_in (Account b) = b.sittings
sittings_in (Guarantee b) = b.sittings

-- an account book has no pledges
abbrev pub pledges_in : AnyBook → List ℕ
pledges_in (Account b) = []
pledges_in (Guarantee b) = map (λ a. a.pledge) (vec_items b.accounts)

-- the pledges of a book that is opened with these sums
abbrev pub pledges_at : Kind → List ℕ → List ℕ
pledges_at kind.Account sums = []
pledges_at kind.Guarantee sums = sums

-- Of several short houses an account book names the one of lowest place, a guarantee book the one with the greatest shortage.
abbrev pub Names : AnyBook → List ℤ → OfferAnswer → Type 0
Names (Account b) ps answer = NamesLowest (covers_in (Account b)) ps answer
Names (Guarantee b) ps answer = NamesGreatest (covers_in (Guarantee b)) ps answer

-- what a book is answered
abbrev pub BookAnswer : Type 0
BookAnswer = Result (Unit {0}) BookDenial

-- the number of the denial, and of each answer: 0 where the book is open, else the denial's
abbrev pub denial_number : BookDenial → ℕ
denial_number BreaksRule = 20

abbrev pub book_number : BookAnswer → ℕ
book_number answer = outcome_number denial_number answer
