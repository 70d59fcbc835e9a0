-- The code's columns of an expression table as the definitions have them.
use Rattle.std.specs.Prelude.{ℕ, ◌<◌, length, take, set}
use Rattle.theory.specs.Table.{Table, table, Row}
use Rattle.columns.specs.declared.table.Table.{Table as Read}
use Rattle.columns.specs.declared.table.TableMut.{TableMut}
use Rattle.columns.specs.Kept.{Kept}

abbrev pub read_table : Read → Table
read_table t = table t.kind.now t.left.now t.right.now

abbrev pub lent_table : TableMut → Table
lent_table t = table t.kind.now t.left.now t.right.now

-- Row i stands in each column.
pub record Has (t : Table) (i : ℕ) : Type 0 where
  pub kind : i < length t.kind
  pub left : i < length t.left
  pub right : i < length t.right

-- The lent columns are those that were lent.
pub record SameTable (t t' : TableMut) : Type 0 where
  pub kind : Kept t.kind t'.kind
  pub left : Kept t.left t'.left
  pub right : Kept t.right t'.right

-- The first n rows.
abbrev pub first : ℕ → Table → Table
first n t = table (take n t.kind) (take n t.left) (take n t.right)

-- The columns with row i stored.
abbrev pub with_row : Table → ℕ → Row → Table
with_row t i w = table (set t.kind i w.kind) (set t.left i w.left) (set t.right i w.right)
