-- What is wrong with an entry, as the definitions number it: 0 where nothing is.
use Rattle.std.specs.Prelude.{ℕ, Option, Some, None}
use Rattle.theory.specs.Stated.{number}
use Rattle.theory.specs.declared.refusal.Cause.{Cause}

abbrev pub number_of : Option Cause → ℕ
number_of (Some cause) = number cause
number_of None = 0
