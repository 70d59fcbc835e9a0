-- How far the automaton of e stands in the lent columns: what is met so far, in 01's order, and what the columns then hold.
use Rattle.std.specs.Prelude.{ℕ, ◌≤◌, ◌<◌, ◌≡◌, false, cond, ◌⊎◌, length, get_or, take, Result, Ok, Err}
use mathlib.Core.List.{List, [], ◌∷◌, ◌++◌, map, Memᴰ}
use Rattle.theory.specs.Limit.{most_expressions, most_states, most_arcs, last_letter}
use Rattle.theory.specs.Expression.{Expression, letters}
use Rattle.theory.specs.Distinct.{Within}
use Rattle.theory.specs.Derivative.{empty_word}
use Rattle.theory.specs.Automaton.{states, arcs, expressions}
use Rattle.theory.specs.Meetings.{Meeting, meeting, meetings, Starts, so_far, to_arc}
use Rattle.theory.specs.Column.{zeros, filled}
use Rattle.theory.specs.Table.{Table, trees, tree_at}
use Rattle.theory.specs.Arcs.{Spans, no_arcs, filled_arcs}
use Rattle.theory.specs.Build.{Lent, Names}
use Rattle.derive.specs.Rows.{Rows}
use Rattle.builder.specs.Letters.{used}
use Rattle.builder.specs.declared.letters.Letters.{Letters}
use Rattle.derive.specs.declared.rows.NoRoom.{NoRoom}
use Rattle.builder.specs.declared.Counts.{Counts as Told}
use Rattle.builder.specs.Columns.{Counts}

-- The columns hold what `done` gives of the automaton of e, and no row that the automaton does not need.
pub record Progress (e : Expression) (done : List Meeting) (c : Lent) (k : Counts) : Type 0 where
  pub rows : Rows c.rows k.rows
  pub needed : Within (trees c.rows k.rows) (expressions e)
  pub state_count : k.states ≡ length (so_far e done)
  pub named : Names c.rows k.rows c.expression (so_far e done)
  pub accepting : c.accepting ≡ filled (length c.accepting) (map (λ x. cond (empty_word x) 1 0) (so_far e done))
  pub arc_count : k.arcs ≡ length done
  pub arcs : c.arcs ≡ filled_arcs c.arcs (map (to_arc (states e)) done)

-- The rooms that the columns have, and that the counts keep within.
pub record Roomy (c : Lent) (rooms k : Counts) : Type 0 where
  pub rows_in : rooms.rows ≤ length c.rows.kind
  pub rows_small : rooms.rows ≤ most_expressions
  pub states_in : rooms.states ≤ length c.expression
  pub accepting_in : rooms.states ≤ length c.accepting
  pub states_small : rooms.states ≤ most_states
  pub arcs_in : Spans c.arcs rooms.arcs
  pub arcs_small : rooms.arcs ≤ most_arcs
  pub rows_fit : k.rows ≤ rooms.rows
  pub states_fit : k.states ≤ rooms.states
  pub arcs_fit : k.arcs ≤ rooms.arcs

-- A need exceeds its room.
abbrev pub Exceeds : Expression → Counts → Type 0
Exceeds e rooms =
    (rooms.rows < length (expressions e)) ⊎ ((rooms.states < length (states e)) ⊎ (rooms.arcs < length (arcs e)))

-- What a stretch of the building gives: the progress `done`, or a need that exceeds its room.
abbrev pub Goes : Expression → List Meeting → Counts → Result Unit NoRoom → Counts → Lent → Type 0
Goes e done rooms (Ok u) k c = Progress e done c k × Roomy c rooms k
Goes e done rooms (Err r) k c = Exceeds e rooms

-- State 0 is the given expression.
abbrev pub root : Lent → Expression
root c = tree_at c.rows (get_or c.expression 0 0)

-- ---- Between the functions of the builder

-- What is met so far is where the meetings of the given expression begin, as many as there are arcs.
abbrev pub met_so_far : Lent → Counts → List Meeting
met_so_far c k = take k.arcs (meetings (root c))

pub record Ready (c : Lent) (rooms k : Counts) : Type 0 where
  pub progress : Progress (root c) (met_so_far c k) c k
  pub roomy : Roomy c rooms k

-- The next meeting: from state i by the letter a the tree of a row.
abbrev pub next_met : Lent → Counts → ℕ → ℕ → ℕ → List Meeting
next_met c k i a r = met_so_far c k ++ (meeting i a (tree_at c.rows r) ∷ [])

pub record Meets (c : Lent) (k : Counts) (i a r : ℕ) : Type 0 where
  pub state : i < k.states
  pub row : r < k.rows
  pub next : Starts (root c) (next_met c k i a r)

-- No row comes.
pub record Met (c : Lent) (k rooms : Counts) (i a r : ℕ) (w : Result Unit NoRoom) (k' : Counts) (c' : Lent) : Type 0 where
  pub goes : Goes (root c) (next_met c k i a r) rooms w k' c'
  pub kept : k'.rows ≡ k.rows

-- The columns of rows and states before the first state: zero, and as long as the rooms.
pub record Begins (rooms : Counts) (t : Table) (expression accepting : List ℕ) : Type 0 where
  pub left_length : length t.left ≡ length t.kind
  pub right_length : length t.right ≡ length t.kind
  pub kind_zero : t.kind ≡ zeros (length t.kind)
  pub left_zero : t.left ≡ zeros (length t.left)
  pub right_zero : t.right ≡ zeros (length t.right)
  pub expression_zero : expression ≡ zeros (length expression)
  pub accepting_zero : accepting ≡ zeros (length accepting)
  pub rows_in : rooms.rows ≤ length t.kind
  pub rows_small : rooms.rows ≤ most_expressions
  pub states_in : rooms.states ≤ length expression
  pub accepting_in : rooms.states ≤ length accepting

-- All lent columns before the first state.
pub record Blank (rooms : Counts) (c : Lent) : Type 0 where
  pub begins : Begins rooms c.rows c.expression c.accepting
  pub states_small : rooms.states ≤ most_states
  pub arcs_zero : c.arcs ≡ no_arcs c.arcs
  pub arcs_in : Spans c.arcs rooms.arcs
  pub arcs_small : rooms.arcs ≤ most_arcs

-- The given expression stands as state 0.
pub record Standing (e : Expression) (rooms k : Counts) (t : Table) (expression accepting : List ℕ) : Type 0 where
  pub rows : Rows t k.rows
  pub needed : Within (trees t k.rows) (expressions e)
  pub rows_fit : k.rows ≤ rooms.rows
  pub one_state : k.states ≡ 1
  pub no_arc : k.arcs ≡ 0
  pub named : Names t k.rows expression (e ∷ [])
  pub flags : accepting ≡ filled (length accepting) (cond (empty_word e) 1 0 ∷ [])
  pub state_room : 1 ≤ rooms.states

abbrev pub Begun : Expression → Counts → Result Unit NoRoom → Counts → Table → List ℕ → List ℕ → Type 0
Begun e rooms (Ok u) k t expression accepting = Standing e rooms k t expression accepting
Begun e rooms (Err r) k t expression accepting = Exceeds e rooms

-- Letters that are not used are none of e's.
abbrev pub Knows : Letters → Expression → Type 0
Knows gathered e = (a : ℕ) → a ≤ last_letter → used gathered a ≡ false → Memᴰ a (letters e) → ⊥

-- State 0 stands, and nothing is met yet.
pub record Started (c : Lent) (rooms k : Counts) : Type 0 where
  pub progress : Progress (root c) [] c k
  pub roomy : Roomy c rooms k

-- All is met, or a need exceeds its room.
pub record Reaches (e : Expression) (rooms : Counts) (w : Result Unit NoRoom) (k : Counts) (c : Lent) : Type 0 where
  pub goes : Goes e (meetings e) rooms w k c

-- The same with the counts as they are told.
abbrev pub Makes : Expression → Counts → Result Told NoRoom → Lent → Type 0
Makes e rooms (Ok k) c = Reaches e rooms (Ok tt) (record { rows = k.expressions; states = k.states; arcs = k.arcs }) c
Makes e rooms (Err r) c = Exceeds e rooms
