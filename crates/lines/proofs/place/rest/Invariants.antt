-- The bytes passed over are as many as the turns that are gone.
use Rattle.lines.proofs.Taking.{Passing}
use Rattle.lines.proofs.place.rest.Given as goal

abbrev pub invariant-loop : goal.invariant-loop
invariant-loop g l = Passing l.fn.block l.fn.place l.block l.place l.counter
