-- What a lent column holds at exit.
use Rattle.std.specs.Prelude.{ℕ, ◌-◌, List, ◌++◌, length, replicate}

-- 01: "sets all lent output and work columns to zero": n zeros.
abbrev pub zeros : ℕ → List ℕ
zeros n = replicate n 0

-- 01: "Beyond the counts all columns hold zero": xs, and zero beyond, n numbers in all.
abbrev pub filled : ℕ → List ℕ → List ℕ
filled n xs = xs ++ zeros (n - length xs)
