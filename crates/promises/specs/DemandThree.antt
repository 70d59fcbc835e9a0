-- The letter's third demand: "Take any well-formed expression of n entries, m of them letters counted with repeats, with m at most 10 and n
-- times 2^m, plus 1, at most 65,535. It needs at most 2^m states, at most n times 2^m plus 1 expressions, and at most m times 4^m arcs. So a
-- site whose tables have these sizes is never refused for room."
use Rattle.std.specs.Prelude.{ℕ, ◌+◌, ◌*◌, ◌^◌, ◌≤◌, ◌≡◌, length, eqb}
use Rattle.theory.specs.Refusal.{success}
use Rattle.theory.specs.Table.{Table, row, size, tree}
use Rattle.theory.specs.Automaton.{states, expressions, arcs}
use Rattle.theory.specs.Build.{Lent, Counts, Built, EvenLent}
use Rattle.theory.specs.Below.{count_below}
use Rattle.promises.specs.Table.{WellFormed}

-- The letter's m: the entries of kind 2.
abbrev pub letter_entries : Table → ℕ
letter_entries g = count_below (size g) (λ i. eqb (row g i).kind 2)

-- What the automaton of a table's tree needs at most.
pub record Needs (g : Table) (n m : ℕ) : Type 0 where
  pub states : length (states (tree g)) ≤ 2 ^ m
  pub expressions : length (expressions (tree g)) ≤ n * 2 ^ m + 1
  pub arcs : length (arcs (tree g)) ≤ m * 4 ^ m

-- Tables of these sizes, sized before the expression is known.
pub record Roomy (c : Lent) (n m : ℕ) : Type 0 where
  pub even : EvenLent c
  pub expressions : n * 2 ^ m + 1 ≤ length c.rows.kind
  pub states : 2 ^ m ≤ length c.expression
  pub arcs : m * 4 ^ m ≤ length c.arcs.from

pub record DemandThree : Type 0 where
  pub needs : (g : Table) → WellFormed g → Needs g (size g) (letter_entries g)
  pub builds : {g : Table} {c : Lent} {answer : Counts} {c' : Lent} → WellFormed g
      → letter_entries g ≤ 10 → size g * 2 ^ letter_entries g + 1 ≤ 65535 → Roomy c (size g) (letter_entries g)
      → Built g c answer c' → answer.refusal ≡ success
