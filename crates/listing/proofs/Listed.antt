-- The lines of the used arcs and of the states, in columns that hold the automaton of an expression, are its listing; each more of them comes
-- after those before it.
use Prim.Native.Nat.{ℕ, ◌+◌, ◌*◌, ◌≤◌}
use native.Mathlib.Nat.{zero-add}
use native.Mathlib.Numerals.{add-one}
use native.Mathlib.Omega.{arith}
use mathlib.Core.Path.{◌≡◌, refl, sym, ap, ap₂, ◌∙◌}
use mathlib.Core.List.{List, [], ◌∷◌, ◌++◌, flat_map, append-nil, append_assoc}
use borrow.Author.Tests.{eq-eqb, ne_eqb}
use lib.ListN.{length, get_or}
use Rattle.theory.specs.Expression.{Expression}
use Rattle.theory.specs.Column.{filled}
use Rattle.theory.specs.Automaton.{Arc, states, accepting, arcs, ascending}
use Rattle.theory.specs.Arcs.{ArcColumns, arc_at, first_arcs, filled_arcs}
use Rattle.theory.specs.Lines.{arc_line, state_line, listing}
use Rattle.theory.proofs.Column.{get_or_filled}
use Rattle.theory.proofs.Filled.{filled_is}
use Rattle.theory.proofs.Meetings.{ascending_more}
use Rattle.theory.proofs.Members.{flat_map_append}
use Rattle.listing.specs.Listing.{arc_bytes, state_bytes, arc_lines, state_text, state_lines}

abbrev line_of : Arc → List ℕ
line_of z = arc_line z.from z.to z.letter

arc_lines_none : (c : ArcColumns) → arc_lines c 0 ≡ []
unfolding arc_lines flat_map first_arcs
arc_lines_none c = refl

arc_lines_more : (c : ArcColumns) (n : ℕ) → arc_lines c (n + 1) ≡ arc_lines c n ++ line_of (arc_at c n)
unfolding arc_lines flat_map first_arcs
arc_lines_more c n =
    ap (arc_lines c) (add-one n) ∙ flat_map_append line_of (first_arcs c n) (arc_at c n ∷ [])
    ∙ ap (λ (x : List ℕ). arc_lines c n ++ x) (append-nil (line_of (arc_at c n)))

state_lines_none : (flags : List ℕ) → state_lines flags 0 ≡ []
unfolding state_lines flat_map ascending
state_lines_none flags = refl

state_lines_more : (flags : List ℕ) (n : ℕ) → state_lines flags (n + 1) ≡ state_lines flags n ++ state_text (get_or flags n 0) n
unfolding state_lines flat_map
state_lines_more flags n =
    let text : ℕ → List ℕ = λ s. state_text (get_or flags s 0) s in
    ap (state_lines flags) (add-one n) ∙ ap (flat_map text) (ascending_more 0 n) ∙ flat_map_append text (ascending 0 n) ((0 + n) ∷ [])
    ∙ ap (λ (x : List ℕ). state_lines flags n ++ x) (append-nil (text (0 + n)) ∙ ap text (zero-add n))

-- The listing, from filled columns.
pub listed : (e : Expression) (size : ℕ) (c : ArcColumns)
    → arc_lines (filled_arcs c (arcs e)) (length (arcs e)) ++ state_lines (filled size (accepting e)) (length (states e)) ≡ listing e
unfolding arc_lines state_lines listing
listed e size c =
    ap₂ (λ (zs : List Arc) (flags : ℕ → ℕ). flat_map line_of zs ++ flat_map (λ s. state_text (flags s) s) (ascending 0 (length (states e))))
    (filled_is e size c).arcs (λ i s. get_or_filled size (accepting e) s i)

-- ---- After what is held

-- The first i of some lines are put, each in its room.
pub record Lined (lines : ℕ → List ℕ) (bytes : ℕ) (before after : List ℕ) (i : ℕ) : Type 0 where
  pub put : after ≡ before ++ lines i
  pub room : length after ≤ length before + i * bytes

lined_none : (lines : ℕ → List ℕ) (bytes : ℕ) (before : List ℕ) → lines 0 ≡ [] → Lined lines bytes before before 0
lined_none lines bytes before e = record { put = sym (append-nil before) ∙ ap (λ (x : List ℕ). before ++ x) (sym e); room = omega arith }

lined_more : (lines : ℕ → List ℕ) (bytes : ℕ) {i : ℕ} (text : List ℕ) → lines (i + 1) ≡ lines i ++ text → {before between after : List ℕ}
    → Lined lines bytes before between i → after ≡ between ++ text → length after ≤ length between + bytes → Lined lines bytes before after (i + 1)
lined_more lines bytes {i} text e {before} l p r = record {
  put =
      p ∙ ap (λ (x : List ℕ). x ++ text) l.put ∙ append_assoc before (lines i) text ∙ ap (λ (x : List ℕ). before ++ x) (sym e);
  room = let k = l.room in omega arith;
}

module _ (c : ArcColumns) where
  pub no_arcs : (before : List ℕ) → Lined (arc_lines c) arc_bytes before before 0
  no_arcs before = lined_none (arc_lines c) arc_bytes before (arc_lines_none c)

  pub arc_more : {i : ℕ} {before between after : List ℕ} → Lined (arc_lines c) arc_bytes before between i
      → after ≡ between ++ line_of (arc_at c i) → length after ≤ length between + arc_bytes → Lined (arc_lines c) arc_bytes before after (i + 1)
  arc_more {i} l p r = lined_more (arc_lines c) arc_bytes (line_of (arc_at c i)) (arc_lines_more c i) l p r

module _ (flags : List ℕ) where
  pub no_states : (before : List ℕ) → Lined (state_lines flags) state_bytes before before 0
  no_states before = lined_none (state_lines flags) state_bytes before (state_lines_none flags)

  pub state_more : {i : ℕ} {before between after : List ℕ} → Lined (state_lines flags) state_bytes before between i
      → after ≡ between ++ state_text (get_or flags i 0) i → length after ≤ length between + state_bytes
      → Lined (state_lines flags) state_bytes before after (i + 1)
  state_more {i} l p r = lined_more (state_lines flags) state_bytes (state_text (get_or flags i 0) i) (state_lines_more flags i) l p r

-- What is put of a state, by its accepting value.
pub of_accepting : (flag s : ℕ) (before : List ℕ) {after : List ℕ} → flag ≡ 1 → after ≡ before ++ state_line s → after ≡ before ++ state_text flag s
of_accepting flag s before e p = p ∙ ap (λ (x : List ℕ). before ++ x) (sym (rw (eq-eqb flag 1 e, state_text)))

pub of_other : (flag s : ℕ) (before : List ℕ) → (flag ≡ 1 → ⊥) → before ≡ before ++ state_text flag s
of_other flag s before n = sym (append-nil before) ∙ ap (λ (x : List ℕ). before ++ x) (sym (rw (ne_eqb flag 1 n, state_text)))
