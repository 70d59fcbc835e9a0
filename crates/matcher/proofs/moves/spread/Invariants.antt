-- The ends of the arcs passed are set: what `spread` keeps.
use Rattle.columns.specs.Arcs.{read_arcs}
use Rattle.sets.specs.Bits.{bit}
use Rattle.matcher.proofs.Spread.{Spread}
use Rattle.matcher.proofs.moves.spread.Given as goal

abbrev pub invariant-loop-i : goal.invariant-loop-i
invariant-loop-i l = Spread (read_arcs l.automaton.arcs) (bit l.current) l.byte l.fn.next l.next l.i
