-- The promise of `reader::read`: what it answers and what it leaves in the three columns, for every text and every three columns.
-- It rests on the declarative `Reads` of Grammar alone.
use Rattle.std.specs.Prelude.{ℕ, ◌≤◌, ◌<◌, min, ◌≡◌, List, map, length, take}
use Rattle.theory.specs.Expression.{entries}
use Rattle.theory.specs.Refusal.{Refusal, refusal, success, columns_differ, text_long}
use Rattle.theory.specs.Limit.{most_entries, longest_text}
use Rattle.theory.specs.Column.{zeros, filled}
use Rattle.theory.specs.Table.{Table, table, Row}
use Rattle.theory.specs.Grammar.{Text, Reading, read, refused, Reads, rows}

-- 01: "Reader: 1, 12, then the one of 13, 14, 15 with the earliest byte"; 15 counts against "the smaller of 512 and the column length".
-- `Due text t r` says that r is the reading due for the text and the columns of t.
pub data Due (text : Text) (t : Table) : Reading → Type 0 where
  differ : ((length t.left ≡ length t.kind) × (length t.right ≡ length t.kind) → ⊥) → Due text t (refused (refusal columns_differ 0))
  long : length t.left ≡ length t.kind → length t.right ≡ length t.kind → longest_text < length text → Due text t (refused (refusal text_long 0))
  short : {r : Reading} → length t.left ≡ length t.kind → length t.right ≡ length t.kind → length text ≤ longest_text
      → Reads (min most_entries (length t.kind)) text r → Due text t r

-- The answer as numbers.
pub record Entered : Type 0 where
  pub refusal : Refusal
  pub entries : ℕ

-- 01: "the result gives the number of entries"; "A refusal returns its number and place and zero in every count".
abbrev pub entered : Reading → Entered
entered (read e) = record { refusal = success; entries = entries e }
entered (refused r) = record { refusal = r; entries = 0 }

-- A column of n numbers at exit: the entries' field and zero beyond them, or all zero on a refusal.
abbrev pub column_of : (Row → ℕ) → Reading → ℕ → List ℕ
column_of field (read e) n = filled n (map field (rows 0 e))
column_of field (refused r) n = zeros n

-- The columns of t after a reading.
abbrev pub left_by : Table → Reading → Table
left_by t r =
    table (column_of (λ w. w.kind) r (length t.kind)) (column_of (λ w. w.left) r (length t.left)) (column_of (λ w. w.right) r (length t.right))

-- What `read` owes.
pub record Read (text : Text) (t : Table) (answer : Entered) (t' : Table) : Type 0 where
  pub reading : Reading
  pub due : Due text t reading
  pub answers : answer ≡ entered reading
  pub kind : t'.kind ≡ column_of (λ w. w.kind) reading (length t.kind)
  pub left : t'.left ≡ column_of (λ w. w.left) reading (length t.left)
  pub right : t'.right ≡ column_of (λ w. w.right) reading (length t.right)

-- 01: "a caller who read a text hands on the part of the columns that the reader filled".
abbrev pub filled_part : Entered → Table → Table
filled_part answer t = table (take answer.entries t.kind) (take answer.entries t.left) (take answer.entries t.right)
