-- The scan of all entries but the last is the scan of those that are left.
use Rattle.std.proofs.Common.{pred}
use Rattle.theory.specs.Table.{size, naming_fault}
use Rattle.columns.specs.Table.{read_table}
use Rattle.table.proofs.Scanning.{Scanning}
use Rattle.table.proofs.naming.naming_checked.Given as goal

abbrev pub invariant-loop-i : goal.invariant-loop-i
invariant-loop-i l = Scanning (naming_fault (read_table l.table)) (pred (size (read_table l.table))) l.i
