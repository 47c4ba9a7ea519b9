-- The verdict on a message of any kind.
use Rattle.std.specs.Prelude.{ℕ, cond, List, None, Ok, Err, Option, Result, slice_index_or}
use Rattle.cuts.specs.Cuts.{Parts}
use Rattle.faults.specs.declared.code.Code.TheVariants.{F04}
use Rattle.faults.specs.declared.code.Fault.{Fault}
use Rattle.fields.specs.Shapes.{Part}
use Rattle.fields.specs.Value.{counted_of}
use Rattle.fields.specs.declared.terms.Terms.{Terms}
use Rattle.headers.specs.Headers.{HeaderParts, header_of}
use Rattle.orders.specs.Orders.{fields_in}
use Rattle.settings.specs.Opened.{houses_of}
use Rattle.settings.specs.declared.settings.Settings.{Settings}
use Rattle.text.specs.Texts.{formed}
use Rattle.kinds.specs.Contents.{row_in}
use Rattle.kinds.specs.Terms.{terms_of}

-- how a kind reads the fields of a text, at the day's terms, for a receiver with this BIC
abbrev pub Reads : Type 0
Reads = Terms → List ℕ → List Parts → Result (List (Option Part)) Fault

-- a text that is not formed is F04; one that is, is read by its kind
abbrev pub text_read : Reads → Terms → HeaderParts → Result (List (Option Part)) Fault
text_read reads terms h = cond (formed h.text) (reads terms h.bic (fields_in h.text)) (Err (record { code = F04; field = 0; row = 0 }))

-- a message that passes: the receiver's place, the reference, the amount in cents, and all its parts
pub record Approved : Type 0 where
  pub receiver : ℕ
  pub reference : List ℕ
  pub amount : ℕ
  pub parts : List (Option Part)

-- the reference is in the first slot, the value in that of the number
abbrev pub approved_by : ℕ → ℕ → List (Option Part) → Approved
approved_by slot receiver ps = record { receiver = receiver; reference = row_in (slice_index_or ps 0 None); amount = counted_of (row_in (slice_index_or ps slot None)); parts = ps }

abbrev pub approved : ℕ → ℕ → Result (List (Option Part)) Fault → Result Approved Fault
approved slot receiver (Ok ps) = Ok (approved_by slot receiver ps)
approved slot receiver (Err f) = Err f

-- the header's checks, then those of the text, then the kind's own; the first that fails gives the fault
abbrev pub verdict_in : ℕ → Reads → Terms → Result HeaderParts Fault → Result Approved Fault
verdict_in slot reads terms (Ok h) = approved slot h.receiver (text_read reads terms h)
verdict_in slot reads terms (Err f) = Err f

abbrev pub verdict_of : List ℕ → ℕ → Reads → Settings → ℕ → List ℕ → Result Approved Fault
verdict_of digits slot reads s sender content = verdict_in slot reads (terms_of s) (header_of digits (houses_of s) sender content)
