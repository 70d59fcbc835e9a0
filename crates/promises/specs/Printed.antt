-- 01, "Two programs": what it shows of the programs' output, held against the definition of their lines. `(a&b)` has the sample listing.
-- And what it says of every listing: state 0 is first.
use Rattle.std.specs.Prelude.{ℕ, ◌≡◌, ◌⊎◌, List, [], ◌∷◌, ◌++◌}
use Rattle.theory.specs.Expression.{Expression, ∅, ε, letter, binary, star, union, concatenation, shuffle}
use Rattle.theory.specs.Refusal.{refusal, text_long}
use Rattle.theory.specs.Record.{automaton, verdict, live}
use Rattle.theory.specs.Lines.{space, newline, number_and, listing, verdict_line, refusal_line}

-- `((a.b)&(c.d))`
abbrev pub two_pairs : Expression
two_pairs = binary shuffle (binary concatenation (letter 97) (letter 98)) (binary concatenation (letter 99) (letter 100))

pub record Printed : Type 0 where
  -- 0 1 97, 0 2 98, 1 3 98, 2 3 97, 3
  pub two_letters : listing (binary shuffle (letter 97) (letter 98))
      ≡ 48 ∷ 32 ∷ 49 ∷ 32 ∷ 57 ∷ 55 ∷ 10 ∷ 48 ∷ 32 ∷ 50 ∷ 32 ∷ 57 ∷ 56 ∷ 10 ∷ 49 ∷ 32 ∷ 51 ∷ 32 ∷ 57 ∷ 56 ∷ 10
      ∷ 50 ∷ 32 ∷ 51 ∷ 32 ∷ 57 ∷ 55 ∷ 10 ∷ 51 ∷ 10 ∷ []
  -- `((a+1)&(b+1))*`: 0 1 97, 0 2 98, then state 1 and state 2, each with "members in list order", then the three states, all accepting
  pub listed_in_order : listing (star (binary shuffle (binary union (letter 97) ε) (binary union (letter 98) ε)))
      ≡ 48 ∷ 32 ∷ 49 ∷ 32 ∷ 57 ∷ 55 ∷ 10 ∷ 48 ∷ 32 ∷ 50 ∷ 32 ∷ 57 ∷ 56 ∷ 10
      -- 1 1 97, 1 0 98, 1 2 98
      ∷ 49 ∷ 32 ∷ 49 ∷ 32 ∷ 57 ∷ 55 ∷ 10 ∷ 49 ∷ 32 ∷ 48 ∷ 32 ∷ 57 ∷ 56 ∷ 10 ∷ 49 ∷ 32 ∷ 50 ∷ 32 ∷ 57 ∷ 56 ∷ 10
      -- 2 0 97, 2 1 97, 2 2 98
      ∷ 50 ∷ 32 ∷ 48 ∷ 32 ∷ 57 ∷ 55 ∷ 10 ∷ 50 ∷ 32 ∷ 49 ∷ 32 ∷ 57 ∷ 55 ∷ 10 ∷ 50 ∷ 32 ∷ 50 ∷ 32 ∷ 57 ∷ 56 ∷ 10
      ∷ 48 ∷ 10 ∷ 49 ∷ 10 ∷ 50 ∷ 10 ∷ []
  -- "For `0` nothing is printed; for `1`, `0`."
  pub empty_language : listing ∅ ≡ []
  pub empty_word : listing ε ≡ 48 ∷ 10 ∷ []
  -- acbd: accepted 1
  pub whole : verdict_line (verdict (automaton two_pairs) (97 ∷ 99 ∷ 98 ∷ 100 ∷ [])) (live (automaton two_pairs) (97 ∷ 99 ∷ 98 ∷ 100 ∷ []))
      ≡ 97 ∷ 99 ∷ 99 ∷ 101 ∷ 112 ∷ 116 ∷ 101 ∷ 100 ∷ 32 ∷ 49 ∷ 10 ∷ []
  -- ac: unfinished 1
  pub start : verdict_line (verdict (automaton two_pairs) (97 ∷ 99 ∷ [])) (live (automaton two_pairs) (97 ∷ 99 ∷ []))
      ≡ 117 ∷ 110 ∷ 102 ∷ 105 ∷ 110 ∷ 105 ∷ 115 ∷ 104 ∷ 101 ∷ 100 ∷ 32 ∷ 49 ∷ 10 ∷ []
  -- ba: wrong 0
  pub fault : verdict_line (verdict (automaton two_pairs) (98 ∷ 97 ∷ [])) (live (automaton two_pairs) (98 ∷ 97 ∷ []))
      ≡ 119 ∷ 114 ∷ 111 ∷ 110 ∷ 103 ∷ 32 ∷ 48 ∷ 10 ∷ []
  -- refused 12 0
  pub refused : refusal_line (refusal text_long 0) ≡ 114 ∷ 101 ∷ 102 ∷ 117 ∷ 115 ∷ 101 ∷ 100 ∷ 32 ∷ 49 ∷ 50 ∷ 32 ∷ 48 ∷ 10 ∷ []

-- The bytes begin with the number 0 and no longer one: the byte after it is a space, as in an arc's line, or the newline of a state's line.
pub record BeginsAtZero (bytes : List ℕ) : Type 0 where
  pub after : ℕ
  pub rest : List ℕ
  pub begins : bytes ≡ number_and 0 after ++ rest
  pub ends : (after ≡ space) ⊎ (after ≡ newline)

-- "State 0 is first in any nonempty listing."
pub record State0First : Type 0 where
  pub first : (e : Expression) → ¬ (listing e ≡ []) → BeginsAtZero (listing e)
