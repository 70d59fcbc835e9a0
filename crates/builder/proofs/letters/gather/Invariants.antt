-- The letters of the entries passed are marked.
use Rattle.builder.proofs.Marks.{Marked}
use Rattle.builder.proofs.letters.gather.Given as goal

abbrev pub invariant-loop-i : goal.invariant-loop-i
invariant-loop-i l = Marked l.table.kind.now l.table.left.now l.marks l.i
