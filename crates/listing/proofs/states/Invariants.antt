-- The lines of the accepting states so far are put, ascending.
use Rattle.listing.specs.Listing.{state_bytes, state_lines}
use Rattle.listing.proofs.Listed.{Lined}
use Rattle.listing.proofs.states.Given as goal

abbrev pub invariant-loop-i : goal.invariant-loop-i
invariant-loop-i g l = Lined (state_lines l.accepting) state_bytes l.fn.output l.output l.i
