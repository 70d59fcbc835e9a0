-- The lent columns in the builder's hands, with how much of each is used and the room in it, and what comes to them.
use Rattle.std.specs.Prelude.{ℕ, ◌+◌, ◌≤◌, ◌<◌, ◌≡◌, List, get_or, set, Option, Some, None, Result, Ok, Err}
use Rattle.theory.specs.Automaton.{Arc}
use Rattle.theory.specs.Arcs.{ArcColumns, arc_columns, with_arc}
use Rattle.theory.specs.Build.{Lent, lent, expression_room, state_room, arc_room}
use Rattle.columns.specs.Kept.{Kept}
use Rattle.derive.specs.Rows.{rows_table}
use Rattle.derive.specs.declared.rows.Rows.{Rows}
use Rattle.derive.specs.declared.rows.NoRoom.{NoRoom}
use Rattle.builder.specs.declared.states.States.{States}
use Rattle.builder.specs.declared.arcs.Arcs.{Arcs}

abbrev pub arcs_of : Arcs → ArcColumns
arcs_of a = arc_columns a.from.now a.letter.now a.to.now

abbrev pub held : Rows → States → Arcs → Lent
held r s a = lent (rows_table r) s.expression.now s.accepting.now (arcs_of a)

-- How many rows, states and arcs.
pub record Counts : Type 0 where
  pub rows : ℕ
  pub states : ℕ
  pub arcs : ℕ

abbrev pub used_in : Rows → States → Arcs → Counts
used_in r s a = record { rows = r.used; states = s.used; arcs = a.used }

abbrev pub rooms_in : Rows → States → Arcs → Counts
rooms_in r s a = record { rows = r.room; states = s.room; arcs = a.room }

-- The rooms for rows and states, beside one for n arcs.
abbrev pub rooms_at : Rows → States → ℕ → Counts
rooms_at r s n = record { rows = r.room; states = s.room; arcs = n }

-- 01: "Rooms: table length, or 65,535 for expressions and states and 16,777,216 for arcs if that is smaller."
abbrev pub rooms_of : Lent → Counts
rooms_of c = record { rows = expression_room c; states = state_room c; arcs = arc_room c }

-- The columns are those that were lent, and the room is the same.
pub record SameStates (s s' : States) : Type 0 where
  pub expression : Kept s.expression s'.expression
  pub accepting : Kept s.accepting s'.accepting
  pub room : s'.room ≡ s.room

pub record SameArcs (a a' : Arcs) : Type 0 where
  pub from : Kept a.from a'.from
  pub letter : Kept a.letter a'.letter
  pub to : Kept a.to a'.to
  pub room : a'.room ≡ a.room

-- The first of the first n numbers of a column that is x, where one is.
abbrev pub FirstEqual : List ℕ → ℕ → ℕ → Option ℕ → Type 0
FirstEqual column n x (Some i) = (i < n) × (get_or column i 0 ≡ x) × ((j : ℕ) → j < i → get_or column j 0 ≡ x → ⊥)
FirstEqual column n x None = (j : ℕ) → j < n → get_or column j 0 ≡ x → ⊥

-- A state more behind the first n of two columns, or no room for it.
abbrev pub StateAdded : (room n : ℕ) → (expression accepting : List ℕ) → (row flag : ℕ) → Result ℕ NoRoom → ℕ → (expression' accepting' : List ℕ) → Type 0
StateAdded room n x f row flag (Ok j) n' x' f' = (n < room) × (j ≡ n) × (x' ≡ set x n row) × (f' ≡ set f n flag) × (n' ≡ n + 1)
StateAdded room n x f row flag (Err e) n' x' f' = (room ≤ n) × (x' ≡ x) × (f' ≡ f) × (n' ≡ n)

-- An arc more behind the first n, or no room for it.
abbrev pub ArcAdded : (room n : ℕ) → ArcColumns → Arc → Result Unit NoRoom → ℕ → ArcColumns → Type 0
ArcAdded room n c z (Ok u) n' c' = (n < room) × (c' ≡ with_arc c n z) × (n' ≡ n + 1)
ArcAdded room n c z (Err e) n' c' = (room ≤ n) × (c' ≡ c) × (n' ≡ n)
