-- The columns keep their lengths.
use Rattle.records.proofs.Going.{Going}
use Rattle.records.proofs.judge.Given as goal

abbrev pub invariant-loop : goal.invariant-loop
invariant-loop g l = Going l.column l.work.current.now l.work.next.now
