-- A day and its keeper as a call finds them: all that the calls read and leave.
use Rattle.std.specs.Prelude.{ℕ, List, Option}
use Rattle.records.specs.declared.recorded.Record.{Record}
use Rattle.day.specs.declared.phase.Phase.{Phase}

pub record Scene : Type 0 where
  pub phase : Phase
  pub remembered : Option ℕ
  pub records : List Record
  pub covers : List ℕ
  pub sittings : ℕ
