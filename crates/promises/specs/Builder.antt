-- Demand 1 at `builder::build`: the cause of each refusal, in the order of 01's table, and what a call is held to.
use Rattle.std.specs.Prelude.{◌<◌, ◌≡◌, ◌↔◌}
use Rattle.theory.specs.Refusal.{Refusal, refusal, success}
use Rattle.theory.specs.Table.{Table, tree}
use Rattle.theory.specs.Build.{Lent, Counts, Cleared, EvenLent, OverRoom}
use Rattle.promises.specs.Table.{WellFormed, TableCause}

-- `BuilderCause g c r`: there is cause for the refusal r.
pub data BuilderCause (g : Table) (c : Lent) : Refusal → Type 0 where
  differ : ¬ EvenLent c → BuilderCause g c (refusal 1 0)
  table : {r : Refusal} → EvenLent c → TableCause g r → ¬ (r.number ≡ 0) → BuilderCause g c r
  room : EvenLent c → WellFormed g → OverRoom (tree g) c → BuilderCause g c (refusal 9 0)
  none : EvenLent c → WellFormed g → ¬ OverRoom (tree g) c → BuilderCause g c success

-- What demand 1 asks of a call: a refusal is given exactly where there is cause for it, and then all counts and columns are zero.
pub record BuilderMeets (g : Table) (c : Lent) (answer : Counts) (c' : Lent) : Type 0 where
  pub exact : (r : Refusal) → (answer.refusal ≡ r) ↔ BuilderCause g c r
  pub numbered : answer.refusal.number < 16
  pub counts : ¬ (answer.refusal.number ≡ 0) → (answer.states ≡ 0) × (answer.expressions ≡ 0) × (answer.arcs ≡ 0)
  pub columns : ¬ (answer.refusal.number ≡ 0) → Cleared c c'
