-- The automaton as the list of all that is met, in 01's order: "States are handled in number order, letters from 1 to 255 for each, members in
-- list order". A builder that stops on the way has met where that list begins; the laws are those of `proofs/Meetings` and `proofs/Nearing`.
use Rattle.std.specs.Prelude.{ℕ, suc, ◌≡◌, get_or, take}
use mathlib.Core.List.{List, [], ◌∷◌, ◌++◌, map, flat_map}
use Rattle.theory.specs.Expression.{Expression, ∅, same}
use Rattle.theory.specs.Distinct.{distinct, place}
use Rattle.theory.specs.Derivative.{derivative}
use Rattle.theory.specs.Automaton.{ascending, alphabet, states, Arc, arc}

-- A member met: from the state of that number, by the letter, that expression.
pub record Meeting : Type 0 where
  pub from : ℕ
  pub letter : ℕ
  pub target : Expression

abbrev pub meeting : ℕ → ℕ → Expression → Meeting
meeting i a m = record { from = i; letter = a; target = m }

-- What is met from state i, the expression x, by some letters.
unfoldable pub by_letters : ℕ → Expression → List ℕ → List Meeting
unfolding flat_map
by_letters i x ls = flat_map (λ a. map (meeting i a) (derivative a x)) ls

-- What is met from the states xs, numbered from i.
unfoldable pub by_states : ℕ → List Expression → List Meeting
unfolding by_letters
by_states i [] = []
by_states i (x ∷ xs) = by_letters i x alphabet ++ by_states (suc i) xs

-- All that is met.
abbrev pub meetings : Expression → List Meeting
meetings e = by_states 0 (states e)

-- All that is met before state i is left by a letter above a.
unfoldable pub before : Expression → ℕ → ℕ → List Meeting
unfolding by_states by_letters
before e i a = by_states 0 (take i (states e)) ++ by_letters i (get_or (states e) i ∅) (ascending 1 a)

-- `done` is where the meetings of e begin.
pub record Starts (e : Expression) (done : List Meeting) : Type 0 where
  pub rest : List Meeting
  pub goes_on : meetings e ≡ done ++ rest

abbrev pub targets : List Meeting → List Expression
targets ms = map (λ (m : Meeting). m.target) ms

-- The states so far: 01, "a new expression gets the next state number".
unfoldable pub so_far : Expression → List Meeting → List Expression
so_far e done = distinct same (e ∷ targets done)

-- A meeting as an arc among the states s.
abbrev pub to_arc : List Expression → Meeting → Arc
to_arc s m = arc m.from m.letter (place same m.target s)
