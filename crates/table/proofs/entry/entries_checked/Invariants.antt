-- The scan of all entries is the scan of those that are left.
use Rattle.std.proofs.Common.{ℕ}
use Rattle.theory.specs.Table.{Table, size, row, entry_fault}
use Rattle.columns.specs.Table.{read_table}
use Rattle.table.proofs.Scanning.{Scanning}
use Rattle.table.proofs.entry.entries_checked.Given as goal

-- What is wrong with each entry.
abbrev pub faults : Table → ℕ → ℕ
faults t i = entry_fault (size t) i (row t i)

abbrev pub invariant-loop-i : goal.invariant-loop-i
invariant-loop-i l = Scanning (faults (read_table l.table)) (size (read_table l.table)) l.i
