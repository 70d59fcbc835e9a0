-- The letters that a table uses, in ascending order. Only the functions of `letters` know how a set of letters is kept.
use Rattle.std.specs.Prelude.{ℕ, ◌+◌, ◌≤◌, ◌<◌, ◌≡◌, Bool, true, false, ◌&&◌, ◌⊎◌, List, length, get_or, eqb, Option, Some, None}
use Rattle.theory.specs.Kind as Kind
use Rattle.theory.specs.Limit.{last_letter}
use Rattle.theory.specs.Below.{some_below}
use Rattle.builder.specs.declared.letters.Letters.{Letters}

-- Whether a is one of the letters.
unfoldable pub used : Letters → ℕ → Bool
used letters a = get_or letters.marks a false

-- Some entry is the letter a.
unfoldable pub uses : List ℕ → List ℕ → ℕ → Bool
unfolding some_below
uses kind left a = some_below (length kind) (λ i. eqb (get_or kind i 0) Kind.letter && eqb (get_or left i 0) a)

-- The letters are those of the entries.
abbrev pub Gathers : List ℕ → List ℕ → Letters → Type 0
Gathers kind left letters = (a : ℕ) → a ≤ last_letter → used letters a ≡ uses kind left a

-- The next letter: the smallest above `after` that is used; none is left where there is no such letter up to 255.
abbrev pub IsNext : Letters → ℕ → Option ℕ → Type 0
IsNext letters after (Some a) =
    (after < a) × (a ≤ last_letter) × (used letters a ≡ true) × ((b : ℕ) → after < b → b < a → used letters b ≡ false)
IsNext letters after None = (b : ℕ) → after < b → b ≤ last_letter → used letters b ≡ false

-- After state i by the letter a comes the same state by the next letter; where none is left, the next state by the first.
abbrev pub IsTurn : Letters → ℕ → ℕ → ℕ → ℕ → Option (ℕ × ℕ) → Type 0
IsTurn letters first i a states (Some t) =
    ((t.0 ≡ i) × IsNext letters a (Some t.1)) ⊎ ((t.0 ≡ i + 1) × (i + 1 < states) × (t.1 ≡ first) × IsNext letters a None)
IsTurn letters first i a states None = (states ≤ i + 1) × IsNext letters a None
