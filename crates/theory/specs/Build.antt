-- The promise of `builder::build`: the answer and every lent column at exit, for every table and all lent columns.
use Rattle.std.specs.Prelude.{ℕ, ◌≤◌, ◌<◌, min, ◌≡◌, Bool, true, false, cond, ◌&&◌, ◌||◌, List, length, get_or, eqb, ltb}
use Rattle.theory.specs.Expression.{Expression, ∅}
use Rattle.theory.specs.Distinct.{NoRepeats, Within}
use Rattle.theory.specs.Refusal.{Refusal, refusal, success, or_else, columns_differ, room_small}
use Rattle.theory.specs.Limit.{most_expressions, most_states, most_arcs}
use Rattle.theory.specs.Column.{zeros, filled}
use Rattle.theory.specs.Table.{Table, row, entry, Sound, trees, tree_at, tree, table_refusal, SameLengths}
use Rattle.theory.specs.Automaton.{states, accepting, arcs, expressions}
use Rattle.theory.specs.Arcs.{ArcColumns, even_arcs, EvenArcs, no_arcs, filled_arcs}

-- 01: "The caller lends: expressions (the three columns above), states (expression number 16 bits, accepting 0 or 1 in 8 bits),
-- arcs (from 16 bits, letter 8 bits, to 16 bits)."
pub record Lent : Type 0 where
  pub rows : Table
  pub expression : List ℕ
  pub accepting : List ℕ
  pub arcs : ArcColumns

abbrev pub lent : Table → List ℕ → List ℕ → ArcColumns → Lent
lent t x acc a = record { rows = t; expression = x; accepting = acc; arcs = a }

-- ---- Refusals

-- 01, refusal 1: "columns of one table differ in length", here of the three lent tables.
unfoldable pub even : Lent → Bool
unfolding even_arcs
even c =
    eqb (length c.rows.left) (length c.rows.kind) && eqb (length c.rows.right) (length c.rows.kind)
    && eqb (length c.accepting) (length c.expression) && even_arcs c.arcs

-- The columns of each lent table are equally long: what `even` tests.
pub record EvenLent (c : Lent) : Type 0 where
  pub rows : SameLengths c.rows
  pub states : length c.accepting ≡ length c.expression
  pub arcs : EvenArcs c.arcs

-- 01: "Rooms: table length, or 65,535 for expressions and states and 16,777,216 for arcs if that is smaller."
abbrev pub expression_room : Lent → ℕ
expression_room c = min (length c.rows.kind) most_expressions

abbrev pub state_room : Lent → ℕ
state_room c = min (length c.expression) most_states

abbrev pub arc_room : Lent → ℕ
arc_room c = min (length c.arcs.from) most_arcs

-- 01: "Refusal 9 is given exactly when a need exceeds its room."
unfoldable pub over_room : Expression → Lent → Bool
unfolding expressions states arcs
over_room e c =
    ltb (expression_room c) (length (expressions e)) || ltb (state_room c) (length (states e)) || ltb (arc_room c) (length (arcs e))

-- 01: "a need exceeds its room": what `over_room` tests.
pub data OverRoom (e : Expression) (c : Lent) : Type 0 where
  of_expressions : expression_room c < length (expressions e) → OverRoom e c
  of_states : state_room c < length (states e) → OverRoom e c
  of_arcs : arc_room c < length (arcs e) → OverRoom e c

-- 01: "Builder: 1, 2, 3, then entries from 0 upward, each checked for 4, 5, 6, 7; then 8; then 9."
unfoldable pub build_refusal : Table → Lent → Refusal
unfolding even table_refusal over_room tree
build_refusal g c =
    cond (even c) (or_else (table_refusal g) (cond (over_room (tree g) c) (refusal room_small 0) success)) (refusal columns_differ 0)

-- ---- The answer

pub record Counts : Type 0 where
  pub refusal : Refusal
  pub states : ℕ
  pub expressions : ℕ
  pub arcs : ℕ

-- 01: "A refusal returns its number and place and zero in every count"; "The result gives the three counts."
unfoldable pub counts : Table → Lent → Counts
unfolding build_refusal tree states expressions arcs
counts g c =
    elim (eqb (build_refusal g c).number 0) [
      | true ↦
          record {
            refusal = success;
            states = length (states (tree g));
            expressions = length (expressions (tree g));
            arcs = length (arcs (tree g));
          }
      | false ↦ record { refusal = build_refusal g c; states = 0; expressions = 0; arcs = 0 }
    ]

-- ---- The columns at exit

-- 01: "sets all lent output and work columns to zero".
pub record Cleared (c c' : Lent) : Type 0 where
  pub kind : c'.rows.kind ≡ zeros (length c.rows.kind)
  pub left : c'.rows.left ≡ zeros (length c.rows.left)
  pub right : c'.rows.right ≡ zeros (length c.rows.right)
  pub expression : c'.expression ≡ zeros (length c.expression)
  pub accepting : c'.accepting ≡ zeros (length c.accepting)
  pub arcs : c'.arcs ≡ no_arcs c.arcs

-- 01's one exception: "the set of trees that the table holds, each once and each child before its parent" is determined, and not the
-- numbering of its rows. The first n rows of t hold exactly the trees es; beyond them all is zero.
pub record Holds (t : Table) (n : ℕ) (es : List Expression) : Type 0 where
  pub sound : (i : ℕ) → i < n → Sound i (row t i)
  pub once : NoRepeats (trees t n)
  pub all : Within es (trees t n)
  pub only : Within (trees t n) es
  pub blank : (i : ℕ) → n ≤ i → row t i ≡ entry 0 0 0

-- The states' rows: "the tree that each state names" is determined; beyond them all is zero.
pub record Names (t : Table) (n : ℕ) (column : List ℕ) (ss : List Expression) : Type 0 where
  pub within : (i : ℕ) → i < length ss → get_or column i 0 < n
  pub named : (i : ℕ) → i < length ss → tree_at t (get_or column i 0) ≡ get_or ss i ∅
  pub blank : (i : ℕ) → length ss ≤ i → get_or column i 0 ≡ 0

-- The automaton of e in the columns.
pub record Stands (e : Expression) (c c' : Lent) : Type 0 where
  pub kind_length : length c'.rows.kind ≡ length c.rows.kind
  pub left_length : length c'.rows.left ≡ length c.rows.left
  pub right_length : length c'.rows.right ≡ length c.rows.right
  pub expression_length : length c'.expression ≡ length c.expression
  pub rows : Holds c'.rows (length (expressions e)) (expressions e)
  pub expression : Names c'.rows (length (expressions e)) c'.expression (states e)
  pub accepting : c'.accepting ≡ filled (length c.accepting) (accepting e)
  pub arcs : c'.arcs ≡ filled_arcs c.arcs (arcs e)

-- What `build` owes.
pub record Built (g : Table) (c : Lent) (answer : Counts) (c' : Lent) : Type 0 where
  pub answers : answer ≡ counts g c
  pub refused : ((build_refusal g c).number ≡ 0 → ⊥) → Cleared c c'
  pub stands : (build_refusal g c).number ≡ 0 → Stands (tree g) c c'
