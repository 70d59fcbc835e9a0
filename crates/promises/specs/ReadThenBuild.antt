-- 01: "A text that is read gives a table that the builder never refuses with 1 to 8", where "a caller who read a text hands on the part of the
-- columns that the reader filled"; and the tree of that table is the expression that the text writes.
use Rattle.std.specs.Prelude.{◌≡◌, ◌⊎◌}
use Rattle.theory.specs.Refusal.{success}
use Rattle.theory.specs.Table.{Table, tree, table_refusal}
use Rattle.theory.specs.Grammar.{Text, written, Writable}
use Rattle.theory.specs.Build.{Lent, Counts, Built, EvenLent}

-- What the builder is handed after a text was read.
pub record ReadThenBuild (text : Text) (g : Table) : Type 0 where
  pub faultless : table_refusal g ≡ success
  pub writable : Writable (tree g)
  pub spelled : written (tree g) ≡ text
  -- With even columns lent, a build can be refused for room alone.
  pub builds : {c : Lent} {answer : Counts} {c' : Lent} → EvenLent c → Built g c answer c'
      → (answer.refusal.number ≡ 0) ⊎ (answer.refusal.number ≡ 9)
