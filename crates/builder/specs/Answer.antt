-- 01, "Form by location": "Where an answer is an enum, a definition gives this paper's number and values for each of the enum's cases."
use Rattle.std.specs.Prelude.{Result, Ok, Err}
use Rattle.theory.specs.Refusal.{success}
use Rattle.theory.specs.Stated.{stated}
use Rattle.theory.specs.Build.{Counts as Told}
use Rattle.theory.specs.declared.refusal.Refusal.{Refusal}
use Rattle.builder.specs.declared.Counts.{Counts}

abbrev pub answer : Result Counts Refusal → Told
answer (Ok k) = record { refusal = success; states = k.states; expressions = k.expressions; arcs = k.arcs }
answer (Err r) = record { refusal = stated r; states = 0; expressions = 0; arcs = 0 }
