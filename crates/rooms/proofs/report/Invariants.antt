-- The lines so far are taken and reported.
use Rattle.site.specs.Totals.{values}
use Rattle.rooms.proofs.Going.{Going}
use Rattle.rooms.proofs.report.Given as goal

abbrev pub invariant-loop : goal.invariant-loop
invariant-loop g l = Going l.fn.input l.input (values l.totals) l.output l.counter
