-- The code's automaton as the definitions have it.
use Rattle.theory.specs.Record.{Handed, handed}
use Rattle.columns.specs.Arcs.{read_arcs}
use Rattle.matcher.specs.declared.automaton.Automaton.{Automaton}

abbrev pub handed_over : Automaton → Handed
handed_over a = handed a.states a.accepting.now a.arc_count (read_arcs a.arcs)
