-- Demand 1 at `table::check`, and refusals 1 to 8 of an expression table wherever it is handed over: the cause of each, in the order of 01's table.
use Rattle.std.specs.Prelude.{ℕ, pred, ◌≤◌, ◌<◌, ◌≡◌, ◌↔◌, true, Result}
use mathlib.Core.List.{Memᴰ}
use Rattle.theory.specs.Refusal.{Refusal, refusal, success}
use Rattle.theory.specs.Table.{Table, Row, row, size, meaning, fields_fit, row_children, times, named, SameLengths}
use Rattle.theory.specs.Table as Tested
use Rattle.theory.specs.Stated.{refusal_in}
use Rattle.theory.specs.declared.refusal.Refusal.{Refusal as Refused}

-- 01's table of kinds, the columns "left" and "right" where they hold no child: what a row of each kind may have there.
pub data FieldsFit (w : Row) : Type 0 where
  empty_language : w.kind ≡ 0 → w.left ≡ 0 → w.right ≡ 0 → FieldsFit w
  empty_word : w.kind ≡ 1 → w.left ≡ 0 → w.right ≡ 0 → FieldsFit w
  letter : w.kind ≡ 2 → 1 ≤ w.left → w.left ≤ 255 → w.right ≡ 0 → FieldsFit w
  union : w.kind ≡ 3 → FieldsFit w
  concatenation : w.kind ≡ 4 → FieldsFit w
  shuffle : w.kind ≡ 5 → FieldsFit w
  star : w.kind ≡ 6 → w.right ≡ 0 → FieldsFit w

-- The same columns where they hold a child: `left` of kinds 3 to 6, and `right` of kinds 3 to 5.
pub data ChildOf (w : Row) (c : ℕ) : Type 0 where
  left : 3 ≤ w.kind → w.kind ≤ 6 → c ≡ w.left → ChildOf w c
  right : 3 ≤ w.kind → w.kind ≤ 5 → c ≡ w.right → ChildOf w c

-- `EntryCause n i w k`: entry i of a table of n, the row w, gives cause for the refusal k. Each is due only where those before it are not.
pub data EntryCause (n i : ℕ) (w : Row) : ℕ → Type 0 where
  unknown : 6 < w.kind → EntryCause n i w 4
  outside : w.kind ≤ 6 → ¬ FieldsFit w → EntryCause n i w 5
  not_smaller : FieldsFit w → (c : ℕ) → ChildOf w c → i ≤ c → EntryCause n i w 6
  inside : w.kind ≡ 0 → FieldsFit w → 1 < n → EntryCause n i w 7

-- Entry i of a table of n gives no cause. 01: "A child's number is smaller than its parent's"; "Kind 0 may stand only as the single entry of a
-- one-entry table".
pub record Faultless (n i : ℕ) (w : Row) : Type 0 where
  pub fits : FieldsFit w
  pub smaller : (c : ℕ) → ChildOf w c → c < i
  pub alone : w.kind ≡ 0 → n ≤ 1

-- 1, 2 and 3 are not due.
pub record Sized (g : Table) : Type 0 where
  pub even : SameLengths g
  pub nonempty : 0 < size g
  pub short : size g ≤ 512

-- Nothing is wrong with the entries before p.
abbrev pub FaultlessBefore : Table → ℕ → Type 0
FaultlessBefore g p = (i : ℕ) → i < p → Faultless (size g) i (row g i)

-- The table's entries name entry i once.
abbrev pub NamedOnce : Table → ℕ → Type 0
NamedOnce g i = times i (named g (size g)) ≡ 1

-- What the letter calls a well-formed expression. 01: "A table has 1 to 512 entries"; "Every entry but the last is named as a child exactly once".
pub record WellFormed (g : Table) : Type 0 where
  pub sized : Sized g
  pub faultless : FaultlessBefore g (size g)
  pub once : (i : ℕ) → i < pred (size g) → NamedOnce g i

-- `TableCause g r`: there is cause for the refusal r of the table g.
pub data TableCause (g : Table) : Refusal → Type 0 where
  differ : ¬ SameLengths g → TableCause g (refusal 1 0)
  empty : SameLengths g → size g ≡ 0 → TableCause g (refusal 2 0)
  long : SameLengths g → 512 < size g → TableCause g (refusal 3 0)
  entry : {k : ℕ} → Sized g → (p : ℕ) → p < size g → FaultlessBefore g p → EntryCause (size g) p (row g p) k → TableCause g (refusal k p)
  not_once : Sized g → FaultlessBefore g (size g) → (p : ℕ) → p < pred (size g) → ((i : ℕ) → i < p → NamedOnce g i) → ¬ NamedOnce g p
      → TableCause g (refusal 8 p)
  none : WellFormed g → TableCause g success

-- What demand 1 asks of a check, which writes nothing: a refusal is given exactly where there is cause for it.
pub record TableMeets (g : Table) (answer : Result Unit Refused) : Type 0 where
  pub exact : (r : Refusal) → (refusal_in answer ≡ r) ↔ TableCause g r
  pub numbered : (refusal_in answer).number < 9

-- The types above are what the tests of the contracts find.
pub record TablesTested : Type 0 where
  pub fields : (w : Row) → w.kind ≤ 6 → (fields_fit (meaning w.kind) w.left w.right ≡ true) ↔ FieldsFit w
  pub children : (w : Row) (c : ℕ) → Memᴰ c (row_children w) ↔ ChildOf w c
  pub entries : (n i : ℕ) (w : Row) → Tested.Faultless n i w ↔ Faultless n i w
  pub tables : (g : Table) → Tested.WellFormed g ↔ WellFormed g
