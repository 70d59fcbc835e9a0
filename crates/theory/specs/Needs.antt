-- 01, "Needs": what each of the three needs counts, said without the steps by which the lists of `Automaton` are made.
use Rattle.std.specs.Prelude.{ℕ, ◌≤◌, ◌<◌, ◌≡◌, ◌↔◌, length, get_or}
use mathlib.Core.List.{Memᴰ}
use Rattle.theory.specs.Limit.{last_letter}
use Rattle.theory.specs.Expression.{Expression, ∅, ε, parts}
use Rattle.theory.specs.Distinct.{NoRepeats}
use Rattle.theory.specs.Derivative.{derivative}
use Rattle.theory.specs.Automaton.{states, Derived, arc, arcs, expressions}

-- The triple of i, a and j: state j is a member of the derivative of state i by the letter a.
pub record Triple (e : Expression) (i a j : ℕ) : Type 0 where
  pub from : i < length (states e)
  pub low : 1 ≤ a
  pub high : a ≤ last_letter
  pub to : j < length (states e)
  pub member : Memᴰ (get_or (states e) j ∅) (derivative a (get_or (states e) i ∅))

-- "the literal empty word, the states, and all parts of states"; a state is a part of itself.
pub data Tree (e x : Expression) : Type 0 where
  empty : x ≡ ε → Tree e x
  part : {s : Expression} → Memᴰ s (states e) → Memᴰ x (parts s) → Tree e x

-- "States: the different expressions so reached. Arcs: the different triples. Expressions: the different trees".
pub record Counted (e : Expression) : Type 0 where
  pub states_once : NoRepeats (states e)
  pub states : (x : Expression) → Memᴰ x (states e) ↔ Derived e x
  pub arcs_once : NoRepeats (arcs e)
  pub arcs : (i a j : ℕ) → Memᴰ (arc i a j) (arcs e) ↔ Triple e i a j
  pub expressions_once : NoRepeats (expressions e)
  pub expressions : (x : Expression) → Memᴰ x (expressions e) ↔ Tree e x
