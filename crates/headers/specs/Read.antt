-- A header that was read, by what its references point to.
use Rattle.std.specs.Prelude.{Ok, Err, Result}
use Rattle.faults.specs.declared.code.Fault.{Fault}
use Rattle.headers.specs.declared.header.Header.{Header}
use Rattle.headers.specs.Headers.{HeaderParts}

abbrev pub header_parts : Header → HeaderParts
header_parts h = record { receiver = h.receiver; bic = h.bic.now; text = h.text.now }

abbrev pub seen_header : Result Header Fault → Result HeaderParts Fault
seen_header (Ok h) = Ok (header_parts h)
seen_header (Err f) = Err f
