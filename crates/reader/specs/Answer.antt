-- The answer as 01's numbers. 01: "the result gives the number of entries"; "A refusal returns its number and place and zero in every count".
use Rattle.std.specs.Prelude.{ℕ, Result, Ok, Err}
use Rattle.theory.specs.Refusal.{success}
use Rattle.theory.specs.Read.{Entered}
use Rattle.theory.specs.Stated.{stated}
use Rattle.theory.specs.declared.refusal.Refusal.{Refusal}

abbrev pub answer : Result ℕ Refusal → Entered
answer (Ok entries) = record { refusal = success; entries = entries }
answer (Err r) = record { refusal = stated r; entries = 0 }
