-- What a line means.
use Rattle.std.specs.Prelude.{ℕ, Bool, true, cond, List, [], ◌∷◌, ℤ, Ok, Err, vec_items, Result, ◌==◌}
use Rattle.script.specs.declared.command.Command.{Command}
use Rattle.script.specs.declared.command.Command.TheVariants as command
use Rattle.script.specs.declared.command.Kind.{Kind}
use Rattle.script.specs.declared.command.LineError.{LineError}
use Rattle.script.specs.declared.command.LineError.TheVariants.{MissingWord, SpareWord}
use Rattle.script.specs.declared.names.Name.{Name}
use Rattle.script.specs.declared.names.Name.TheVariants as name
use Rattle.script.specs.Names.{name_of, kind_of}
use Rattle.script.specs.Numbers.{number_of, signed_of}
use Rattle.script.specs.Outcomes.{and_then, in_front}
use Rattle.script.specs.Spelling.{spelled}
use Rattle.script.specs.Words.{words_of}

-- a command as it is meant: nothing; a book of a kind, for so many sittings, with a sum a house; an offer of a
-- position a house; so many cents paid in for the house at a place; the question for the covers
pub data Meaning : Type 0 where
  nothing : Meaning
  book : Kind → ℕ → List ℕ → Meaning
  offer : List ℤ → Meaning
  pay_in : ℕ → ℕ → Meaning
  covers : Meaning

-- what a command of the code stands for
abbrev pub meaning : Command → Meaning
meaning command.Nothing = nothing
meaning (command.Book kind sittings sums) = book kind sittings (vec_items sums)
meaning (command.Offer positions) = offer (vec_items positions)
meaning (command.PayIn place cents) = pay_in place cents
meaning command.Covers = covers

-- what a word says once its bytes are spelled
abbrev pub said_by : {X : Type 0} → (List ℕ → Result X LineError) → List ℕ → Result X LineError
said_by f w = and_then (spelled w) f

-- what each of the words says, or the first failure
abbrev pub said_by_all : {X : Type 0} → (List ℕ → Result X LineError) → List (List ℕ) → Result (List X) LineError
said_by_all f [] = Ok []
said_by_all f (w ∷ ws) = and_then (said_by f w) (λ x. in_front x (said_by_all f ws))

-- the commands by the words behind their names
abbrev pub book_of : List (List ℕ) → Result Meaning LineError
book_of [] = Err MissingWord
book_of (k ∷ []) = Err MissingWord
book_of (k ∷ s ∷ sums) = and_then (said_by kind_of k) (λ kind. and_then (said_by number_of s) (λ sittings. and_then (said_by_all number_of sums) (λ ns. Ok (book kind sittings ns))))

abbrev pub offer_of : List (List ℕ) → Result Meaning LineError
offer_of ps = and_then (said_by_all signed_of ps) (λ positions. Ok (offer positions))

abbrev pub pay_in_of : List (List ℕ) → Result Meaning LineError
pay_in_of [] = Err MissingWord
pay_in_of (p ∷ []) = Err MissingWord
pay_in_of (p ∷ c ∷ []) = and_then (said_by number_of p) (λ place. and_then (said_by number_of c) (λ cents. Ok (pay_in place cents)))
pay_in_of (p ∷ c ∷ w ∷ ws) = Err SpareWord

abbrev pub covers_of : List (List ℕ) → Result Meaning LineError
covers_of [] = Ok covers
covers_of (w ∷ ws) = Err SpareWord

abbrev pub named_of : Name → List (List ℕ) → Result Meaning LineError
named_of name.Book ws = book_of ws
named_of name.Offer ws = offer_of ws
named_of name.PayIn ws = pay_in_of ws
named_of name.Covers ws = covers_of ws

-- the first word names the command
abbrev pub spoken_of : List (List ℕ) → Result Meaning LineError
spoken_of [] = Err MissingWord
spoken_of (w ∷ ws) = and_then (said_by name_of w) (λ n. named_of n ws)

-- the byte that ends a word, and the one that begins a comment
abbrev pub space : ℕ
space = 32

abbrev pub comment : ℕ
comment = 35

-- an empty line, and a comment
abbrev pub is_nothing : List ℕ → Bool
is_nothing [] = true
is_nothing (b ∷ t) = b == comment

-- what a line means
abbrev pub command_of : List ℕ → Result Meaning LineError
command_of line = cond (is_nothing line) (Ok nothing) (spoken_of (words_of space line))
