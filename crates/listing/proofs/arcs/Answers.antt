-- `arcs` puts the lines of the arcs in table order.
use Rattle.listing.proofs.Listed.{no_arcs, arc_more}
use Rattle.listing.proofs.arcs.Goals as goal

pub loop-i-init : goal.loop-i-init
loop-i-init g c = no_arcs _ _

pub loop-i-preserved : goal.loop-i-preserved
loop-i-preserved g c = arc_more _ c.loop-i.invariant c.arc.ensures.put c.arc.ensures.upper_bound
