-- Whether one of the states passed is set and accepting: what `accepts` keeps.
use Rattle.std.proofs.Common.{◌≡◌, ◌&&◌, get_or, eqb}
use Rattle.theory.specs.Below.{some_below}
use Rattle.sets.specs.Bits.{bit}
use Rattle.matcher.proofs.moves.accepts.Given as goal

abbrev pub invariant-loop-t : goal.invariant-loop-t
invariant-loop-t l = l.any ≡ some_below l.t (λ k. bit l.current k && eqb (get_or l.automaton.accepting.now k 0) 1)
