-- After i turns the first i words are handed over and cleared: what `turn` keeps.
use Rattle.sets.proofs.Turned.{Turned}
use Rattle.sets.proofs.turn.Given as goal

abbrev pub invariant-loop-i : goal.invariant-loop-i
invariant-loop-i l = Turned l.fn.current l.fn.next l.current l.next l.any l.i
