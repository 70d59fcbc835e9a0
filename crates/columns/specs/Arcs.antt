-- The code's columns of arcs as the definitions have them.
use Rattle.std.specs.Prelude.{ℕ, ◌<◌, length}
use Rattle.theory.specs.Arcs.{ArcColumns, arc_columns}
use Rattle.columns.specs.declared.arcs.Arcs.{Arcs}
use Rattle.columns.specs.declared.arcs.ArcsMut.{ArcsMut}
use Rattle.columns.specs.Kept.{Kept}

abbrev pub read_arcs : Arcs → ArcColumns
read_arcs c = arc_columns c.from.now c.letter.now c.to.now

abbrev pub lent_arcs : ArcsMut → ArcColumns
lent_arcs c = arc_columns c.from.now c.letter.now c.to.now

-- Arc n stands in each column.
pub record HasArc (c : ArcColumns) (n : ℕ) : Type 0 where
  pub from : n < length c.from
  pub letter : n < length c.letter
  pub to : n < length c.to

-- The lent columns are those that were lent.
pub record SameArcs (c c' : ArcsMut) : Type 0 where
  pub from : Kept c.from c'.from
  pub letter : Kept c.letter c'.letter
  pub to : Kept c.to c'.to
