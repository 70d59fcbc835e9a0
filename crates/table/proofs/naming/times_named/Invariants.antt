-- What the rows before j name.
use Rattle.std.proofs.Common.{◌≡◌}
use Rattle.theory.specs.Table.{times, named}
use Rattle.columns.specs.Table.{read_table}
use Rattle.table.proofs.naming.times_named.Given as goal

abbrev pub invariant-loop-j : goal.invariant-loop-j
invariant-loop-j l = l.times ≡ times l.i (named (read_table l.table) l.j)
