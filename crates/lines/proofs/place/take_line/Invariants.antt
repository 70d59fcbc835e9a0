-- So many bytes of the line are stored, and taken.
use Rattle.lines.proofs.Taking.{Stored}
use Rattle.lines.proofs.place.take_line.Given as goal

abbrev pub invariant-loop-length : goal.invariant-loop-length
invariant-loop-length g l = Stored l.fn.block l.fn.column l.fn.place l.block l.column l.place l.length
