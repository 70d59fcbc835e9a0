-- The lines of the arcs so far are put, in table order.
use Rattle.columns.specs.Arcs.{read_arcs}
use Rattle.listing.specs.Listing.{arc_bytes, arc_lines}
use Rattle.listing.proofs.Listed.{Lined}
use Rattle.listing.proofs.arcs.Given as goal

abbrev pub invariant-loop-i : goal.invariant-loop-i
invariant-loop-i g l = Lined (arc_lines (read_arcs l.arcs)) arc_bytes l.fn.output l.output l.i
