-- A set of numbers in 64-bit words, one bit per number: number t is digit t % 64 of word t / 64.
use Rattle.std.specs.Prelude.{ℕ, ◌/◌, ◌%◌, ◌^◌, Bool, List, get_or, eqb}

-- whether binary digit j of a word is set
unfoldable pub digit : ℕ → ℕ → Bool
digit word j = eqb (word / 2 ^ j % 2) 1

-- whether t is in the set
unfoldable pub bit : List ℕ → ℕ → Bool
unfolding digit
bit words t = digit (get_or words (t / 64) 0) (t % 64)
