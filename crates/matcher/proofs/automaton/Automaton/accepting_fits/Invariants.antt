-- The values passed are fit: what `accepting_fits` keeps.
use Rattle.std.proofs.Common.{◌≡◌}
use Rattle.theory.specs.Record.{accepting_fits}
use Rattle.matcher.proofs.automaton.Automaton.accepting_fits.Given as goal

abbrev pub invariant-loop-value : goal.invariant-loop-value
invariant-loop-value l = l.fit ≡ accepting_fits l.value-index l.self.accepting.now
