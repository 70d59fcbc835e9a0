-- Whatever stood before the first place stands, with the stars read so far, before the present one. The measure is the text that is left.
use Rattle.std.proofs.Common.{length, ◌-◌}
use Rattle.columns.specs.Table.{lent_table, SameTable}
use Rattle.reader.proofs.Stars.{Starred}
use Rattle.reader.proofs.entries.stars.Given as goal

abbrev pub invariant-loop-byte : goal.invariant-loop-byte
invariant-loop-byte l = record {
  starred : Starred l.at.room l.text l.initial.cursor.at l.initial.made (lent_table l.initial.table) l.cursor.at l.made (lent_table l.table);
  same : SameTable l.initial.table l.table;
}

abbrev pub decreases-loop-byte : goal.decreases-loop-byte
decreases-loop-byte l = length l.text - l.cursor.at
