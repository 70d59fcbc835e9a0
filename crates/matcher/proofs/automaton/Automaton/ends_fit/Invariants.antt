-- The arcs passed are fit: what `ends_fit` keeps.
use Rattle.std.proofs.Common.{◌≡◌}
use Rattle.theory.specs.Arcs.{counted}
use Rattle.theory.specs.Record.{ends_fit}
use Rattle.columns.specs.Arcs.{read_arcs}
use Rattle.matcher.proofs.automaton.Automaton.ends_fit.Given as goal

abbrev pub invariant-loop-i : goal.invariant-loop-i
invariant-loop-i l = l.fit ≡ ends_fit (counted l.i (read_arcs l.self.arcs)) l.self.states
