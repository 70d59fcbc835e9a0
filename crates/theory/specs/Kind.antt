-- The kinds of 01's expression table by name. The code has them under the same names in src/kind.rt.
use Rattle.std.specs.Prelude.{ℕ}

abbrev pub empty_language : ℕ
empty_language = 0

abbrev pub empty_word : ℕ
empty_word = 1

abbrev pub letter : ℕ
letter = 2

abbrev pub union : ℕ
union = 3

abbrev pub concatenation : ℕ
concatenation = 4

abbrev pub shuffle : ℕ
shuffle = 5

abbrev pub star : ℕ
star = 6

-- A kind beyond it is unknown.
abbrev pub last : ℕ
last = star
