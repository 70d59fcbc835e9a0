-- At each place the states of the bytes before it are set: what `walk` keeps, and what falls.
use Rattle.std.proofs.Common.{◌-◌, length}
use Rattle.theory.specs.Arcs.{counted}
use Rattle.theory.specs.Record.{work}
use Rattle.columns.specs.Arcs.{read_arcs}
use Rattle.matcher.proofs.Walk.{Walk}
use Rattle.matcher.proofs.moves.walk.Given as goal

abbrev pub invariant-loop-byte : goal.invariant-loop-byte
invariant-loop-byte l = Walk (counted l.automaton.arc_count (read_arcs l.automaton.arcs)) l.«record» (work l.current l.next) l.cursor.at

abbrev pub decreases-loop-byte : goal.decreases-loop-byte
decreases-loop-byte l = length l.«record» - l.cursor.at
