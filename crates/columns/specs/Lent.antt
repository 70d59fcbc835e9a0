-- 01: "The caller lends: expressions .., states .., arcs": the code's three tables as the definitions have them.
use Rattle.theory.specs.Build.{Lent, lent}
use Rattle.columns.specs.declared.table.TableMut.{TableMut}
use Rattle.columns.specs.declared.states.StatesMut.{StatesMut}
use Rattle.columns.specs.declared.arcs.ArcsMut.{ArcsMut}
use Rattle.columns.specs.Table.{lent_table}
use Rattle.columns.specs.Arcs.{lent_arcs}

abbrev pub lent_all : TableMut → StatesMut → ArcsMut → Lent
lent_all t s a = lent (lent_table t) s.expression.now s.accepting.now (lent_arcs a)
