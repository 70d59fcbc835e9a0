-- The first of the numbers are put, single-spaced.
use Rattle.lines.proofs.Putting.{Spaced}
use Rattle.lines.proofs.block.row.Given as goal

abbrev pub invariant-loop-n : goal.invariant-loop-n
invariant-loop-n l = Spaced l.numbers l.fn.block l.used l.block l.at l.n-index
