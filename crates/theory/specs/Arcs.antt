-- 01, "Reading a record": "an arc count, the arc columns", whoever made them: the arcs that are used, and the states that a record reaches
-- along them. The columns of the arcs as one table: refusal 1, all zero, and some arcs in them with zero beyond.
use Rattle.std.specs.Prelude.{ℕ, zero, suc, ◌≤◌, ◌≡◌, Bool, true, false, ◌&&◌, List, [], ◌∷◌, ◌++◌, map, length, get_or, set, eqb}
use Rattle.std.proofs.Math.Option.{Option, none, some}
use Rattle.theory.specs.Column.{zeros, filled}
use Rattle.theory.specs.Below.{some_below}
use Rattle.theory.specs.Language.{Word}
use Rattle.theory.specs.Automaton.{Arc, arc}

-- 01: "arcs (from 16 bits, letter 8 bits, to 16 bits)".
pub record ArcColumns : Type 0 where
  pub from : List ℕ
  pub letter : List ℕ
  pub to : List ℕ

abbrev pub arc_columns : List ℕ → List ℕ → List ℕ → ArcColumns
arc_columns f l t = record { from = f; letter = l; to = t }

-- 01: "an arc count, the arc columns".
pub record Arcs : Type 0 where
  pub count : ℕ
  pub columns : ArcColumns

abbrev pub counted : ℕ → ArcColumns → Arcs
counted n c = record { count = n; columns = c }

-- ---- The columns as one table

-- 01, refusal 1: "columns of one table differ in length", here of the arcs.
unfoldable pub even_arcs : ArcColumns → Bool
even_arcs c = eqb (length c.letter) (length c.from) && eqb (length c.to) (length c.from)

-- What `even_arcs` tests.
pub record EvenArcs (c : ArcColumns) : Type 0 where
  pub letter : length c.letter ≡ length c.from
  pub to : length c.to ≡ length c.from

-- Each column holds n numbers at least.
pub record Spans (c : ArcColumns) (n : ℕ) : Type 0 where
  pub from : n ≤ length c.from
  pub letter : n ≤ length c.letter
  pub to : n ≤ length c.to

-- The columns with one arc stored at place n.
abbrev pub with_arc : ArcColumns → ℕ → Arc → ArcColumns
with_arc c n z = arc_columns (set c.from n z.from) (set c.letter n z.letter) (set c.to n z.to)

-- 01: "sets all lent output and work columns to zero".
abbrev pub no_arcs : ArcColumns → ArcColumns
no_arcs c = arc_columns (zeros (length c.from)) (zeros (length c.letter)) (zeros (length c.to))

-- 01: "Beyond the counts all columns hold zero": these arcs in columns as long as those of c.
abbrev pub filled_arcs : ArcColumns → List Arc → ArcColumns
filled_arcs c zs =
    arc_columns (filled (length c.from) (map (λ (z : Arc). z.from) zs)) (filled (length c.letter) (map (λ (z : Arc). z.letter) zs))
    (filled (length c.to) (map (λ (z : Arc). z.to) zs))

-- ---- The arcs that are used

-- Arc i of the columns.
abbrev pub arc_at : ArcColumns → ℕ → Arc
arc_at c i = arc (get_or c.from i 0) (get_or c.letter i 0) (get_or c.to i 0)

unfoldable pub first_arcs : ArcColumns → ℕ → List Arc
first_arcs c zero = []
first_arcs c (suc n) = first_arcs c n ++ (arc_at c n ∷ [])

-- 01: "a used arc".
abbrev pub used : Arcs → List Arc
used a = first_arcs a.columns a.count

-- ---- The states reached

-- A set of states.
abbrev pub States : Type 0
States = ℕ → Bool

-- State 0 alone: where every record starts.
unfoldable pub start : States
start t = eqb t 0

-- Arc i of the columns leads by the byte b from a state of s.
unfoldable pub leaves : ArcColumns → States → (b i : ℕ) → Bool
leaves c s b i = elim (eqb (get_or c.letter i 0) b) [ true ↦ s (get_or c.from i 0) | false ↦ false ]

-- It leads to the state t.
unfoldable pub leads : ArcColumns → States → (b t i : ℕ) → Bool
unfolding leaves
leads c s b t i = elim (eqb (get_or c.to i 0) t) [ true ↦ leaves c s b i | false ↦ false ]

-- The states that one byte leads to.
unfoldable pub moved : Arcs → States → ℕ → States
unfolding some_below leads
moved a s b t = some_below a.count (leads a.columns s b t)

-- The states that the bytes of a record lead to.
unfoldable pub after : Arcs → States → Word → States
unfolding moved
after a s [] = s
after a s (b ∷ w) = after a (moved a s b) w

unfoldable pub reached : Arcs → Word → States
unfolding after start
reached a w = after a start w

-- ---- The first byte after which no state is reached

-- A byte leads on where some used arc leads by it from a state of s.
unfoldable pub leads_on : Arcs → States → ℕ → Bool
unfolding some_below leaves
leads_on a s b = some_below a.count (leaves a.columns s b)

-- The first byte of a record, counted from p, that does not lead on.
unfoldable pub dead_at : Arcs → States → ℕ → Word → Option ℕ
unfolding moved leads_on
dead_at a s p [] = none
dead_at a s p (b ∷ w) = elim (leads_on a s b) [ true ↦ dead_at a (moved a s b) (suc p) w | false ↦ some p ]
