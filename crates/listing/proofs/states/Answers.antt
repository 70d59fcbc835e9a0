-- `states` puts the lines of the accepting states, ascending.
use Rattle.listing.proofs.Listed.{no_states, state_more}
use Rattle.listing.proofs.states.Goals as goal

pub loop-i-init : goal.loop-i-init
loop-i-init g c = no_states _ _

pub loop-i-preserved : goal.loop-i-preserved
loop-i-preserved g c = state_more _ c.loop-i.invariant c.state.ensures.put c.state.ensures.upper_bound
