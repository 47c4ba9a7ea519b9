-- Why a line cannot be carried out, in words.
use Rattle.std.specs.Prelude.{ℕ, List, codes}
use Rattle.script.specs.declared.command.LineError.{LineError}
use Rattle.script.specs.declared.command.LineError.TheVariants.{UnknownCommand, UnknownKind, MissingWord, SpareWord, BadNumber, BadEscape, NoBook, NoMemory}

abbrev pub reason : LineError → List ℕ
reason UnknownCommand = codes "unknown command"
reason UnknownKind = codes "unknown kind of book"
reason MissingWord = codes "a word is missing"
reason SpareWord = codes "a word too many"
reason BadNumber = codes "not a number in bounds"
reason BadEscape = codes "a backslash without two hexadecimal digits"
reason NoBook = codes "no book is open"
reason NoMemory = codes "no memory"
