-- What an expression means: 004's languages, written without the automaton, the derivative or a Boolean test.
use Rattle.std.specs.Prelude.{ℕ, ◌≡◌, ◌⊎◌}
use mathlib.Core.List.{List, [], ◌∷◌, ◌++◌, flatten}
use Rattle.theory.specs.Expression.{Expression, ∅, ε, letter, binary, star, union, concatenation, shuffle}

-- A record, or a word: 01, "a string of bytes".
abbrev pub Word : Type 0
Word = List ℕ

-- 004, "Shuffle Operation": `Shuffled x y z` says that z is in the shuffle of the words x and y.
-- x ⧢ ε = ε ⧢ x = {x}; ax ⧢ by = {az | z ∈ x ⧢ by} ∪ {bz | z ∈ ax ⧢ y}.
abbrev pub Shuffled : Word → Word → Word → Type 0
Shuffled x [] z = z ≡ x
Shuffled [] (b ∷ y) z = z ≡ b ∷ y
Shuffled (a ∷ x) (b ∷ y) [] = ⊥
Shuffled (a ∷ x) (b ∷ y) (c ∷ z) = ((c ≡ a) × Shuffled x (b ∷ y) z) ⊎ ((c ≡ b) × Shuffled (a ∷ x) y z)

-- P holds of each word of a list.
abbrev pub Each : (Word → Type 0) → List Word → Type 0
Each P [] = Unit {0}
Each P (w ∷ ws) = P w × Each P ws

-- 004: `In e w` says that the word w is in the language of e. Star is the usual one: any number of words of x, one after the other.
abbrev pub In : Expression → Word → Type 0
In ∅ w = ⊥
In ε w = w ≡ []
In (letter a) w = w ≡ a ∷ []
In (binary union x y) w = In x w ⊎ In y w
In (binary concatenation x y) w = (u : Word) × (v : Word) × In x u × In y v × (w ≡ u ++ v)
In (binary shuffle x y) w = (u : Word) × (v : Word) × In x u × In y v × Shuffled u v w
In (star x) w = (ws : List Word) × Each (In x) ws × (w ≡ flatten ws)
