-- 2026-01, the room report: "prints per line, single-spaced, entries, letters, states, expressions and arcs, or the refusal, and a last line of
-- totals". "It has the rooms of the other two programs."
use Rattle.std.specs.Prelude.{ℕ, ◌+◌, ◌^◌, Bool, cond, ◌||◌, List, [], ◌∷◌, map, length, eqb, ltb}
use Rattle.theory.specs.Expression.{Expression, entries, letters}
use Rattle.theory.specs.Refusal.{Refusal, refusal, success, room_small, text_long}
use Rattle.theory.specs.Limit.{longest_text}
use Rattle.theory.specs.Automaton.{states, expressions, arcs}
use Rattle.theory.specs.Grammar.{Text, Reading, read, refused}
use Rattle.theory.specs.Scan.{scan}
use Rattle.theory.specs.Rooms

-- ---- One line

-- 01: "Success is 0 with place 0. A refusal returns its number and place and zero in every count". Letters are counted with repeats: the
-- letter's m.
pub record Report : Type 0 where
  pub refusal : Refusal
  pub entries : ℕ
  pub letters : ℕ
  pub states : ℕ
  pub expressions : ℕ
  pub arcs : ℕ

abbrev pub withheld : Refusal → Report
withheld r = record { refusal = r; entries = 0; letters = 0; states = 0; expressions = 0; arcs = 0 }

unfoldable pub needs : Expression → Report
unfolding entries letters states expressions arcs
needs e = record {
  refusal = success;
  entries = entries e;
  letters = length (letters e);
  states = length (states e);
  expressions = length (expressions e);
  arcs = length (arcs e);
}

-- 01: "Refusal 9 is given exactly when a need exceeds its room."
unfoldable pub too_large : Expression → Bool
unfolding states expressions arcs
too_large e =
    ltb Rooms.expressions (length (expressions e)) || ltb Rooms.states (length (states e)) || ltb Rooms.arcs (length (arcs e))

-- 01: "Reader: 1, 12, then the one of 13, 14, 15 with the earliest byte".
unfoldable pub reading : Text → Reading
unfolding scan
reading text = cond (ltb longest_text (length text)) (refused (refusal text_long 0)) (scan Rooms.entries text)

unfoldable pub of_reading : Reading → Report
unfolding too_large needs
of_reading (read e) = cond (too_large e) (withheld (refusal room_small 0)) (needs e)
of_reading (refused r) = withheld r

unfoldable pub report : Text → Report
unfolding reading of_reading
report text = of_reading (reading text)

-- ---- The totals

-- "lines built, the sum of their states, and, for built lines with m at most 10 alone, the sums of 2^m and of states"
pub record Totals : Type 0 where
  pub built : ℕ
  pub states : ℕ
  pub powers : ℕ
  pub few : ℕ

unfoldable pub those : (Report → Bool) → List Report → List Report
those p [] = []
those p (r ∷ rs) = cond (p r) (r ∷ those p rs) (those p rs)

unfoldable pub sum : (Report → ℕ) → List Report → ℕ
sum f [] = 0
sum f (r ∷ rs) = f r + sum f rs

abbrev pub is_built : Report → Bool
is_built r = eqb r.refusal.number 0

-- "m at most 10"
abbrev pub is_small : Report → Bool
is_small r = ltb r.letters 11

unfoldable pub totals : List Text → Totals
unfolding those sum report
totals texts =
    let built = those is_built (map report texts) in
    let small = those is_small built in
    record {
      built = length built;
      states = sum (λ r. r.states) built;
      powers = sum (λ r. 2 ^ r.letters) small;
      few = sum (λ r. r.states) small;
    }
