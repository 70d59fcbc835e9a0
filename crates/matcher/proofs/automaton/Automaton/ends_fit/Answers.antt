-- `ends_fit` meets its contract: the answer is that of the arcs passed.
use Rattle.std.proofs.Common.{refl}
use Rattle.theory.specs.Below.{all_below}
use Rattle.theory.specs.Record.{arc_fits, ends_fit}
use Rattle.theory.proofs.Below.{all_next}
use Rattle.columns.specs.Arcs.{read_arcs}
use Rattle.matcher.proofs.automaton.Automaton.ends_fit.Goals as goal

pub loop-i-init : goal.loop-i-init
unfolding ends_fit all_below
loop-i-init c = refl

pub loop-i-preserved : goal.loop-i-preserved
unfolding ends_fit arc_fits
loop-i-preserved c = all_next c.loop-i.i (arc_fits (read_arcs c.args.self.arcs) c.args.self.states) c.loop-i.invariant
