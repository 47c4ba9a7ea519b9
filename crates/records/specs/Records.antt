-- The records of a day: a list, in the order in which the messages were handed in. A record goes by its place there.
use Rattle.std.specs.Prelude.{ℕ, List, Some, None, slice_index_or}
use Rattle.names.specs.declared.kinds.FileKind.TheVariants.{Payments}
use Rattle.records.specs.declared.recorded.Record.{Record}
use Rattle.records.specs.declared.state.State.TheVariants.{Rejected, Waiting}

-- what stands past the end of the list, where nothing is on record
abbrev pub blank : Record
blank =
    record { sender = 0; kind = Payments; file = 0; message = 0; amount = 0; receiver = None; state = Rejected 0 0 0 0 }

-- the record at a place
abbrev pub record_at : List Record → ℕ → Record
record_at records i = slice_index_or records i blank

-- a payment that waits, of so many cents from one house to another
abbrev pub payment : ℕ → ℕ → ℕ → Record
payment from to cents =
    record { sender = from; kind = Payments; file = 1; message = 1; amount = cents; receiver = Some to; state = Waiting }
