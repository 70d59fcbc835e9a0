-- Demand 1 at `reader::read`: the cause of each refusal, in the order of 01's table, and what a call is held to.
use Rattle.std.specs.Prelude.{ℕ, suc, ◌≤◌, ◌<◌, min, ◌≡◌, ◌↔◌, length, take}
use Rattle.theory.specs.Expression.{Expression, entries}
use Rattle.theory.specs.Refusal.{Refusal, refusal, success}
use Rattle.theory.specs.Column.{zeros}
use Rattle.theory.specs.Table.{Table, table, size, SameLengths}
use Rattle.theory.specs.Grammar.{Text, written, Writable, Whole, Viable, depth, made, Passed}
use Rattle.theory.specs.Read.{Entered}

-- 01, refusal 15: "the smaller of 512 and the column length".
abbrev pub entry_room : Table → ℕ
entry_room t = min 512 (size t)

-- Nothing is wrong before the first byte is read.
pub record Legible (text : Text) (t : Table) : Type 0 where
  pub even : SameLengths t
  pub short : length text ≤ 4096

-- Byte p is a byte of the text, and nothing is wrong with the text before it.
pub record Reached (text : Text) (t : Table) (p : ℕ) : Type 0 where
  pub legible : Legible text t
  pub inside : p < length text
  pub passed : Passed (entry_room t) (take p text)

-- 01, "The written expression": the text is e written, within the limits.
pub record Written (text : Text) (t : Table) (e : Expression) : Type 0 where
  pub legible : Legible text t
  pub writable : Writable e
  pub spelled : written e ≡ text
  pub shallow : (p : ℕ) → depth (take p text) ≤ 64
  pub fits : entries e ≤ entry_room t

-- `ReaderCause text t r`: there is cause for the refusal r. After byte p the text is its first p + 1 bytes.
pub data ReaderCause (text : Text) (t : Table) : Refusal → Type 0 where
  differ : ¬ SameLengths t → ReaderCause text t (refusal 1 0)
  long : SameLengths t → 4096 < length text → ReaderCause text t (refusal 12 0)
  broken : (p : ℕ) → Reached text t p → ¬ Viable (take (suc p) text) → ReaderCause text t (refusal 13 p)
  stopped : Legible text t → Passed (entry_room t) text → ¬ Whole text → ReaderCause text t (refusal 13 (length text))
  deep : (p : ℕ) → Reached text t p → Viable (take (suc p) text) → 64 < depth (take (suc p) text) → ReaderCause text t (refusal 14 p)
  many : (p : ℕ) → Reached text t p → Viable (take (suc p) text) → entry_room t < made (take (suc p) text) → ReaderCause text t (refusal 15 p)
  none : (e : Expression) → Written text t e → ReaderCause text t success

-- What demand 1 asks of a call: a refusal is given exactly where there is cause for it, and then the count and all columns are zero.
pub record ReaderMeets (text : Text) (t : Table) (answer : Entered) (t' : Table) : Type 0 where
  pub exact : (r : Refusal) → (answer.refusal ≡ r) ↔ ReaderCause text t r
  pub numbered : answer.refusal.number < 16
  pub count : ¬ (answer.refusal.number ≡ 0) → answer.entries ≡ 0
  pub columns : ¬ (answer.refusal.number ≡ 0) → t' ≡ table (zeros (length t.kind)) (zeros (length t.left)) (zeros (length t.right))
