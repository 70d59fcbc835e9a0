-- 01, "Proved examples": the table, and one claim about it, through text, table, automaton and record; below it the line about room. All is
-- computed by the definitions that the contracts cite.
use Rattle.std.specs.Prelude.{ℕ, Bool, true, false, ◌&&◌, List, [], ◌∷◌, length, T, eqb}
use Rattle.theory.specs.Column.{zeros}
use Rattle.theory.specs.Refusal.{Refusal, refusal, success}
use Rattle.theory.specs.Automaton.{states, expressions, arcs}
use Rattle.theory.specs.Table.{Table, table, columns, tree, table_refusal}
use Rattle.theory.specs.Grammar.{Text, Reading, read, refused, rows}
use Rattle.theory.specs.Scan.{scan}
use Rattle.theory.specs.Arcs.{arc_columns}
use Rattle.theory.specs.Build.{Lent, lent, build_refusal}
use Rattle.theory.specs.Record.{automaton, Verdict, accepted, unfinished, wrong, verdict, live}

-- What is claimed of a text: states, expressions, arcs, and of a record its verdict and live; or the refusal with so much room for states.
pub data Claim : Type 0 where
  needs : (states expressions arcs : ℕ) (word : Text) → Verdict → (live : ℕ) → Claim
  with_states : (room : ℕ) → Refusal → Claim

pub record Line : Type 0 where
  pub text : Text
  pub claim : Claim

infix 70 ◌claims◌
abbrev pub ◌claims◌ : Text → Claim → Line
t claims c = record { text = t; claim = c }

unfoldable pub same_verdict : Verdict → Verdict → Bool
same_verdict accepted accepted = true
same_verdict accepted unfinished = false
same_verdict accepted (wrong p) = false
same_verdict unfinished accepted = false
same_verdict unfinished unfinished = true
same_verdict unfinished (wrong p) = false
same_verdict (wrong p) accepted = false
same_verdict (wrong p) unfinished = false
same_verdict (wrong p) (wrong q) = eqb p q

unfoldable pub same_refusal : Refusal → Refusal → Bool
same_refusal r s = eqb r.number s.number && eqb r.place s.place

-- The table that the reader makes of a text; empty where it is refused.
unfoldable pub table_of : Reading → Table
unfolding rows
table_of (read e) = columns (rows 0 e)
table_of (refused r) = columns []

-- 01, "Two programs": rooms of 1,024 expressions and 4,096 arcs.
unfoldable pub with_room : ℕ → Lent
with_room n = lent (table (zeros 1024) (zeros 1024) (zeros 1024)) (zeros n) (zeros n) (arc_columns (zeros 4096) (zeros 4096) (zeros 4096))

unfoldable pub holds_of : Claim → Table → Bool
unfolding tree table_refusal states expressions arcs automaton verdict live same_verdict same_refusal build_refusal with_room
holds_of (needs s x a w v n) t =
    let e = tree t in
    same_refusal (table_refusal t) success && eqb (length (states e)) s && eqb (length (expressions e)) x && eqb (length (arcs e)) a
    && same_verdict (verdict (automaton e) w) v && eqb (live (automaton e) w) n
holds_of (with_states room r) t = same_refusal (build_refusal t (with_room room)) r

unfoldable pub all_hold : List Line → Bool
unfolding table_of holds_of scan
all_hold [] = true
all_hold (l ∷ ls) = holds_of l.claim (table_of (scan 512 l.text)) && all_hold ls

unfoldable pub examples : List Line
examples =
    -- 0
    (48 ∷ []) claims needs 1 2 0 [] unfinished 1
    ∷ (48 ∷ []) claims needs 1 2 0 (97 ∷ []) (wrong 0) 0
    -- 1
    ∷ (49 ∷ []) claims needs 1 1 0 [] accepted 1
    -- a*
    ∷ (97 ∷ 42 ∷ []) claims needs 1 3 1 (97 ∷ 97 ∷ []) accepted 1
    -- (a.b)*
    ∷ (40 ∷ 97 ∷ 46 ∷ 98 ∷ 41 ∷ 42 ∷ []) claims needs 2 6 2 (97 ∷ 98 ∷ 97 ∷ []) unfinished 1
    -- (a&b)
    ∷ (40 ∷ 97 ∷ 38 ∷ 98 ∷ 41 ∷ []) claims needs 4 4 4 (98 ∷ 97 ∷ []) accepted 1
    -- (a&a)
    ∷ (40 ∷ 97 ∷ 38 ∷ 97 ∷ 41 ∷ []) claims needs 3 3 2 (97 ∷ []) unfinished 1
    -- (a&1)
    ∷ (40 ∷ 97 ∷ 38 ∷ 49 ∷ 41 ∷ []) claims needs 2 3 1 (97 ∷ []) accepted 1
    -- ((a&b)&c)
    ∷ (40 ∷ 40 ∷ 97 ∷ 38 ∷ 98 ∷ 41 ∷ 38 ∷ 99 ∷ 41 ∷ []) claims needs 8 8 12 (99 ∷ 97 ∷ 98 ∷ []) accepted 1
    -- ((a.b)&(c.d))
    ∷ (40 ∷ 40 ∷ 97 ∷ 46 ∷ 98 ∷ 41 ∷ 38 ∷ 40 ∷ 99 ∷ 46 ∷ 100 ∷ 41 ∷ 41 ∷ []) claims needs 9 11 12 (97 ∷ 99 ∷ 98 ∷ 100 ∷ 100 ∷ []) (wrong 4) 0
    -- ((a+1)&(b+1))*
    ∷ (40 ∷ 40 ∷ 97 ∷ 43 ∷ 49 ∷ 41 ∷ 38 ∷ 40 ∷ 98 ∷ 43 ∷ 49 ∷ 41 ∷ 41 ∷ 42 ∷ []) claims needs 3 9 8 (97 ∷ 98 ∷ []) accepted 2
    -- (a&b) with state room 3, and with 4
    ∷ (40 ∷ 97 ∷ 38 ∷ 98 ∷ 41 ∷ []) claims with_states 3 (refusal 9 0)
    ∷ (40 ∷ 97 ∷ 38 ∷ 98 ∷ 41 ∷ []) claims with_states 4 success
    ∷ []

-- "Proved together as a single table with one claim about it".
pub record ExamplesHold : Type 0 where
  pub all : T (all_hold examples)
