use Rattle.std.proofs.Common.{◌≡◌, ◌+◌, ◌≤◌, length}
use Rattle.text.specs.Rows.{rows_of}
use Rattle.fields.specs.Lines.{first_row}
use Rattle.fields.proofs.lines.first_row.Given as goal

abbrev pub invariant-loop-n : goal.invariant-loop-n
invariant-loop-n g l = record {
  callable : (goal.iterator-loop-n g).can_next l.n-iterator;
  ends : (goal.iterator-loop-n g).is_finite l.n-iterator;
  later : first_row g.bad l.n-iterator.a.start (rows_of l.n-iterator.b.rest.now) ≡ first_row g.bad 1 (rows_of l.bytes);
  few : l.n-iterator.a.start + length l.n-iterator.b.rest.now ≤ 1 + length l.bytes;
}
