-- The names of the commands and of the kinds of books.
use Rattle.std.specs.Prelude.{ℕ, cond, List, [], ◌∷◌, Ok, Err, codes, Result}
use Rattle.std.specs.Str.{bytes_eq}
use Rattle.script.specs.declared.command.Kind.{Kind}
use Rattle.script.specs.declared.command.Kind.TheVariants.{Account, Guarantee}
use Rattle.script.specs.declared.command.LineError.{LineError}
use Rattle.script.specs.declared.command.LineError.TheVariants.{UnknownCommand, UnknownKind}
use Rattle.script.specs.declared.names.Name.{Name}
use Rattle.script.specs.declared.names.Name.TheVariants.{Book, Offer, PayIn, Covers}

-- what the table has at a word, or the failure
abbrev pub looked_up : {X : Type 0} → LineError → List (List ℕ × X) → List ℕ → Result X LineError
looked_up e [] w = Err e
looked_up e (x ∷ xs) w = cond (bytes_eq w x.0) (Ok x.1) (looked_up e xs w)

abbrev pub name_of : List ℕ → Result Name LineError
name_of = looked_up UnknownCommand ((codes "book", Book) ∷ (codes "offer", Offer) ∷ (codes "pay-in", PayIn) ∷ (codes "covers", Covers) ∷ [])

abbrev pub kind_of : List ℕ → Result Kind LineError
kind_of = looked_up UnknownKind ((codes "account", Account) ∷ (codes "guarantee", Guarantee) ∷ [])
