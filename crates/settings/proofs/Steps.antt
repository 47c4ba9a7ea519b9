-- A step of the loop over the entries. Assumes nothing.
use Rattle.std.proofs.Common.{false, []}
use Rattle.settings.specs.declared.opening.HouseEntry.{HouseEntry}

-- the entry that stands for one past the last
abbrev pub no_entry : HouseEntry
no_entry = record { bic = record { ref_ptr = (0, 0); now = [] }; suspended = false }
