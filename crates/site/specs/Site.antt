-- The promise of `site::automaton`: the answer and every lent column at exit, for every text and all lent columns.
use Rattle.std.specs.Prelude.{ℕ, ◌≡◌, true, false, cond, ◌&&◌, List, length, eqb}
use Rattle.theory.specs.Expression.{Expression}
use Rattle.theory.specs.Refusal.{Refusal, refusal, success, columns_differ, room_small}
use Rattle.theory.specs.Column.{zeros, filled}
use Rattle.theory.specs.Automaton.{accepting, arcs}
use Rattle.theory.specs.Arcs.{ArcColumns, even_arcs, no_arcs, filled_arcs}
use Rattle.theory.specs.Table.{Table, table}
use Rattle.theory.specs.Grammar.{Text, Reading, read, refused}
use Rattle.theory.specs.Read.{Due}
use Rattle.theory.specs.Build.{Lent, lent, Counts, Built, over_room}
use Rattle.theory.specs.Rooms
use Rattle.theory.specs.Report.{Report, withheld, needs}

-- ---- What is lent

-- A program lends what it looks at of an automaton.
pub record Shown : Type 0 where
  pub accepting : List ℕ
  pub arcs : ArcColumns

abbrev pub shown : List ℕ → ArcColumns → Shown
shown acc a = record { accepting = acc; arcs = a }

-- 01: "Both have rooms of 512 entries, 1,024 expressions, 512 states, 4,096 arcs."
pub record InRooms (s : Shown) : Type 0 where
  pub states : length s.accepting ≡ Rooms.states
  pub from : length s.arcs.from ≡ Rooms.arcs
  pub letter : length s.arcs.letter ≡ Rooms.arcs
  pub to : length s.arcs.to ≡ Rooms.arcs

-- Entries, expressions and what the states name are looked at by no program: they have columns of the rooms' lengths.
abbrev pub entry_columns : Table
entry_columns = table (zeros Rooms.entries) (zeros Rooms.entries) (zeros Rooms.entries)

abbrev pub beside : Shown → Lent
beside s =
    lent (table (zeros Rooms.expressions) (zeros Rooms.expressions) (zeros Rooms.expressions)) (zeros Rooms.states) s.accepting s.arcs

-- ---- The answer

-- What is refused of an expression that was read: 1 where the accepting column is not as long as the room for states or the arc columns
-- differ, and 9 where a need exceeds its room.
unfoldable pub site_refusal : Expression → Shown → Refusal
unfolding even_arcs over_room
site_refusal e s =
    cond (eqb (length s.accepting) Rooms.states && even_arcs s.arcs) (cond (over_room e (beside s)) (refusal room_small 0) success)
    (refusal columns_differ 0)

-- By a refusal's number: a where there is none, and b where there is one.
abbrev pub unless_refused : {A : Type 0} → Refusal → A → A → A
unless_refused r a b = elim (eqb r.number 0) [ true ↦ a | false ↦ b ]

unfoldable pub answered : Reading → Shown → Report
unfolding site_refusal needs
answered (read e) s = unless_refused (site_refusal e s) (needs e) (withheld (site_refusal e s))
answered (refused r) s = withheld r

-- ---- The columns at exit

-- 01: "sets all lent output and work columns to zero".
abbrev pub blank : Shown → Shown
blank s = record { accepting = zeros (length s.accepting); arcs = no_arcs s.arcs }

-- 01: "Beyond the counts all columns hold zero."
unfoldable pub holding : Expression → Shown → Shown
unfolding accepting arcs
holding e s = record { accepting = filled (length s.accepting) (accepting e); arcs = filled_arcs s.arcs (arcs e) }

unfoldable pub left_in : Reading → Shown → Shown
unfolding site_refusal holding
left_in (read e) s = unless_refused (site_refusal e s) (holding e s) (blank s)
left_in (refused r) s = blank s

-- What `build` owes: what the builder owes, whatever it leaves in the columns that are not lent.
pub record BuiltBeside (t : Table) (s : Shown) (answer : Counts) (s' : Shown) : Type 0 where
  pub rows : Table
  pub expression : List ℕ
  pub built : Built t (beside s) answer (lent rows expression s'.accepting s'.arcs)

-- What `automaton` owes: what is not read is refused as the reader refuses it, and what is read is built.
pub record Made (text : Text) (s : Shown) (answer : Report) (s' : Shown) : Type 0 where
  pub reading : Reading
  pub due : Due text entry_columns reading
  pub answers : answer ≡ answered reading s
  pub leaves : s' ≡ left_in reading s
