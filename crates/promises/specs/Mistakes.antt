-- 01, "Mistakes that look reasonable": for each of the five an expression on which it shows, with what the rules give there, as one table with
-- one claim. And 004's shuffle by itself: a word that is a mix of `ab` and `cd`, and one that is not.
use Rattle.std.specs.Prelude.{List, [], ◌∷◌, T}
use Rattle.theory.specs.Refusal.{success}
use Rattle.theory.specs.Record.{accepted}
use Rattle.theory.specs.Language.{In}
use Rattle.promises.specs.Examples.{Line, ◌claims◌, needs, with_states, all_hold}
use Rattle.promises.specs.Printed.{two_pairs}

unfoldable pub mistakes : List Line
mistakes =
    -- "Shuffle read as either order of whole words: `acbd` lost from `((a.b)&(c.d))`."
    (40 ∷ 40 ∷ 97 ∷ 46 ∷ 98 ∷ 41 ∷ 38 ∷ 40 ∷ 99 ∷ 46 ∷ 100 ∷ 41 ∷ 41 ∷ []) claims needs 9 11 12 (97 ∷ 99 ∷ 98 ∷ 100 ∷ []) accepted 1
    -- "One arc at most per state and letter, or at most m arcs from a state": ((a+1)&(b+1))* has three states, two letters and eight arcs.
    ∷ (40 ∷ 40 ∷ 97 ∷ 43 ∷ 49 ∷ 41 ∷ 38 ∷ 40 ∷ 98 ∷ 43 ∷ 49 ∷ 41 ∷ 41 ∷ 42 ∷ []) claims needs 3 9 8 (97 ∷ 98 ∷ []) accepted 2
    -- "Skipping the right side of a concatenation whenever the left can move": `b` of (a*.b).
    ∷ (40 ∷ 97 ∷ 42 ∷ 46 ∷ 98 ∷ 41 ∷ []) claims needs 2 5 2 (98 ∷ []) accepted 1
    -- "Taking the whole of x's list as ended once one member is the empty word in a shuffle": `abc` of ((a+(a.b))&c).
    ∷ (40 ∷ 40 ∷ 97 ∷ 43 ∷ 40 ∷ 97 ∷ 46 ∷ 98 ∷ 41 ∷ 41 ∷ 38 ∷ 99 ∷ 41 ∷ []) claims needs 6 8 9 (97 ∷ 98 ∷ 99 ∷ []) accepted 1
    -- "Refusing for room on a member that was already in the table, when the table is exactly full": (a&b) with room for its four states.
    ∷ (40 ∷ 97 ∷ 38 ∷ 98 ∷ 41 ∷ []) claims with_states 4 success
    ∷ []

-- One claim about the table: what each mistake would change is as the rules give it.
pub record MistakesShutOut : Type 0 where
  pub all : T (all_hold mistakes)

pub record Mixed : Type 0 where
  -- acbd is a mix of ab and cd; adcb is none, since d comes before c.
  pub mix : In two_pairs (97 ∷ 99 ∷ 98 ∷ 100 ∷ [])
  pub no_mix : ¬ In two_pairs (97 ∷ 100 ∷ 99 ∷ 98 ∷ [])
