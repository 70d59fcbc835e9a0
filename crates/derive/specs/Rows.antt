-- The expression columns on the way: the first n rows hold n different trees, each child before its parent, row 0 the literal empty
-- word, and zero beyond. What comes to them where a tree is found or added, and what it is to have too little room.
use Rattle.std.specs.Prelude.{ℕ, suc, ◌≤◌, ◌<◌, ◌≡◌, ◌⊎◌, length, Option, Some, None, Result, Ok, Err}
use mathlib.Core.List.{Memᴰ}
use Rattle.theory.specs.Kind
use Rattle.theory.specs.Limit.{most_expressions}
use Rattle.theory.specs.Expression.{Expression, ε, parts}
use Rattle.theory.specs.Distinct.{NoRepeats}
use Rattle.theory.specs.Table.{Table, table, Row, row, entry, Sound, trees, tree_at}
use Rattle.columns.specs.Kept.{Kept}
use Rattle.derive.specs.declared.rows.Rows.{Rows as Lent}
use Rattle.derive.specs.declared.rows.NoRoom.{NoRoom}

-- ---- The code's columns

abbrev pub rows_table : Lent → Table
rows_table r = table r.kind.now r.left.now r.right.now

-- The lent columns are those that were lent, and the room is the same.
pub record SameRows (r r' : Lent) : Type 0 where
  pub kind : Kept r.kind r'.kind
  pub left : Kept r.left r'.left
  pub right : Kept r.right r'.right
  pub room : r'.room ≡ r.room

-- ---- Rows

pub record Rows (t : Table) (n : ℕ) : Type 0 where
  pub left_length : length t.left ≡ length t.kind
  pub right_length : length t.right ≡ length t.kind
  pub within : n ≤ length t.kind
  pub sound : (i : ℕ) → i < n → Sound i (row t i)
  pub once : NoRepeats (trees t n)
  pub nonempty : 0 < n
  pub literal : tree_at t 0 ≡ ε
  pub blank : (i : ℕ) → n ≤ i → row t i ≡ entry Kind.empty_language 0 0

-- The rows fit the room, and the room fits the columns and what a 16-bit number can name.
pub record Fitted (t : Table) (n room : ℕ) : Type 0 where
  pub rows : Rows t n
  pub fits : n ≤ room
  pub in_columns : room ≤ length t.kind
  pub small : room ≤ most_expressions

-- Rows 0 to i stand in the columns, each as 01's table of kinds has it.
pub record SoundTo (t : Table) (i : ℕ) : Type 0 where
  pub in_kind : i < length t.kind
  pub in_left : i < length t.left
  pub in_right : i < length t.right
  pub sound : (j : ℕ) → j < suc i → Sound j (row t j)

-- None of the rows from `start` up to i is w.
pub record Passed (t : Table) (start : ℕ) (w : Row) (i : ℕ) : Type 0 where
  pub other : (j : ℕ) → start ≤ j → j < i → row t j ≡ w → ⊥

-- The first row from `start` on that is w; `None` where none of the first n rows is.
abbrev pub FirstRow : Table → ℕ → ℕ → Row → Option ℕ → Type 0
FirstRow t n start w (Some i) = (i < n) × (row t i ≡ w) × Passed t start w i
FirstRow t n start w None = Passed t start w n

-- ---- What comes

-- Rows may have come after those that were there.
pub record Grown (t : Table) (n : ℕ) (t' : Table) (n' : ℕ) : Type 0 where
  pub rows : Rows t' n'
  pub more : n ≤ n'
  pub kept : (i : ℕ) → i < n → row t' i ≡ row t i

-- The rows that have come fit the room, and each of them is needed.
pub record Came (t : Table) (n room : ℕ) (Need : Expression → Type 0) (t' : Table) (n' : ℕ) : Type 0 where
  pub grown : Grown t n t' n'
  pub fits : n' ≤ room
  pub each : (z : Expression) → Memᴰ z (trees t' n') → Memᴰ z (trees t n) ⊎ Need z

-- A tree was found or added, as row i, and what has come with it.
pub record Held (t : Table) (n room : ℕ) (Need Is : Expression → Type 0) (i : ℕ) (t' : Table) (n' : ℕ) : Type 0 where
  pub came : Came t n room Need t' n'
  pub there : i < n'
  pub is : Is (tree_at t' i)

-- The room is used up to its last row, and a tree is needed that no row has.
pub record Short (t : Table) (n room : ℕ) (Need : Expression → Type 0) (t' : Table) : Type 0 where
  pub came : Came t n room Need t' room
  pub missing : Expression
  pub needed : Need missing
  pub absent : Memᴰ missing (trees t' room) → ⊥

-- ---- What finding or adding a tree gives

abbrev pub Answers : Table → ℕ → ℕ → (Expression → Type 0) → Expression → Result ℕ NoRoom → Table → ℕ → Type 0
Answers t n room Need e (Ok i) t' n' = Held t n room Need (λ z. z ≡ e) i t' n'
Answers t n room Need e (Err r) t' n' = Short t n room Need t'

pub record Answered (t : Table) (n room : ℕ) (Need : Expression → Type 0) (e : Expression) (r : Result ℕ NoRoom) (t' : Table) (n' : ℕ) : Type 0 where
  pub answer : Answers t n room Need e r t' n'

-- The tree e, which alone is needed.
abbrev pub Interns : Table → ℕ → ℕ → Expression → Result ℕ NoRoom → Table → ℕ → Type 0
Interns t n room e = Answered t n room (λ z. z ≡ e) e

-- The tree e with its parts.
abbrev pub Takes : Table → ℕ → ℕ → Expression → Result ℕ NoRoom → Table → ℕ → Type 0
Takes t n room e = Answered t n room (λ z. Memᴰ z (parts e)) e
