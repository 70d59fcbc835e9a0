-- What the search for a row keeps: none of the rows passed is the one looked for.
use Rattle.columns.specs.Row.{as_row}
use Rattle.columns.specs.Table.{read_table}
use Rattle.derive.specs.Rows.{Passed}
use Rattle.derive.proofs.intern.find.Given as goal

abbrev pub invariant-loop-i : goal.invariant-loop-i
invariant-loop-i l = Passed (read_table l.table) l.start (as_row l.w) l.i
