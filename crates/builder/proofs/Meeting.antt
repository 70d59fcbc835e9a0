-- What `meet` gives, way by way. Leans on `Adding`.
use Prim.Native.Nat.{ℕ, suc, ◌+◌, ◌≤◌, ◌<◌}
use native.Mathlib.Nat.{le_trans, lt_of_lt_of_le}
use native.Mathlib.Omega.{arith}
use mathlib.Core.Path.{◌≡◌, refl, sym, ap, ◌∙◌, subst}
use mathlib.Core.Bool.{Bool, true, false, cond, true≢false}
use mathlib.Core.List.{List}
use lib.ListN.{length, set, length-set}
use Rattle.std.specs.Prelude.{Some, None, Result, Ok, Err, IsErr}
use Rattle.theory.specs.Derivative.{empty_word}
use Rattle.theory.specs.Table.{Table, tree_at}
use Rattle.derive.specs.Rows.{Rows, SoundTo}
use Rattle.derive.specs.declared.rows.NoRoom.{NoRoom}
use Rattle.theory.specs.Automaton.{arc}
use Rattle.theory.specs.Arcs.{ArcColumns, Spans, with_arc}
use Rattle.theory.specs.Build.{Lent, lent}
use Rattle.builder.specs.Columns.{Counts, FirstEqual, StateAdded, ArcAdded}
use Rattle.builder.specs.Progress.{Roomy, Ready, Meets, Met}
use Rattle.builder.proofs.Lengths.{stored_same, spans_same}
use Rattle.builder.proofs.Adding.{known_added, new_added, new_exceeds, arc_exceeds}

-- A row that is used, and all before it, are as 01's table of kinds has them.
pub row_sound : {t : Table} {n i : ℕ} → Rows t n → i < n → SoundTo t i
row_sound h l =
    let w = h.within in
    record {
      in_kind = omega arith;
      in_left = omega (arith, h.left_length);
      in_right = omega (arith, h.right_length);
      sound = λ j m. h.sound j (omega arith);
    }

module _ {c : Lent} {rooms k : Counts} {i a r : ℕ} (h : Ready c rooms k) (q : Meets c k i a r) where
  -- The next arc is within its columns.
  next_in : k.arcs < rooms.arcs → Spans c.arcs (suc k.arcs)
  next_in space =
      let o = h.roomy.arcs_in in
      record { from = le_trans space o.from; letter = le_trans space o.letter; to = le_trans space o.to }

  -- Stores change no length, and one arc more is within its room.
  still_roomy : k.arcs < rooms.arcs → (j s : ℕ) (column flags : List ℕ) → length column ≡ length c.expression → length flags ≡ length c.accepting
      → s ≤ rooms.states
      → Roomy (lent c.rows column flags (with_arc c.arcs k.arcs (arc i a j))) rooms (record { rows = k.rows; states = s; arcs = k.arcs + 1 })
  still_roomy space j s column flags lc lf fits =
      let o = h.roomy in
      record {
        rows_in = o.rows_in;
        rows_small = o.rows_small;
        states_in = omega (arith, o.states_in);
        accepting_in = omega (arith, o.accepting_in);
        states_small = o.states_small;
        arcs_in = spans_same (stored_same c.arcs k.arcs (arc i a j)) o.arcs_in;
        arcs_small = o.arcs_small;
        rows_fit = o.rows_fit;
        states_fit = fits;
        arcs_fit = omega arith;
      }

  no_arc : rooms.arcs ≤ k.arcs → {x : NoRoom} {k' : Counts} {c' : Lent} → k'.rows ≡ k.rows → Met c k rooms i a r (Err x) k' c'
  no_arc full e = record { goes = arc_exceeds h.progress i a r q.row q.next rooms full; kept = e }

  -- No room for a new state.
  pub no_state : FirstEqual c.expression k.states r None → rooms.states ≤ k.states → (w : Result Unit NoRoom) → IsErr w
      → {k' : Counts} {c' : Lent} → k'.rows ≡ k.rows → Met c k rooms i a r w k' c'
  no_state f full (Ok u) no_ok e = let z : false ≡ true = no_ok in absurd (true≢false (sym z))
  no_state f full (Err x) is_err e = record { goes = new_exceeds h.progress i a r q.row q.next rooms f full; kept = e }

  -- A state that stands, and the arc to it, or no room for the arc.
  pub met_known : {j : ℕ} → FirstEqual c.expression k.states r (Some j) → (w : Result Unit NoRoom) (n : ℕ) (z : ArcColumns)
      → ArcAdded rooms.arcs k.arcs c.arcs (arc i a j) w n z
      → Met c k rooms i a r w (record { rows = k.rows; states = k.states; arcs = n }) (lent c.rows c.expression c.accepting z)
  met_known {j} f (Ok u) n z add =
      let space = add.0 in
      subst (λ (m : ℕ). Met c k rooms i a r (Ok u) (record { rows = k.rows; states = k.states; arcs = m }) (lent c.rows c.expression c.accepting z))
      (sym add.2)
      (subst (λ x. Met c k rooms i a r (Ok u) (record { rows = k.rows; states = k.states; arcs = k.arcs + 1 }) (lent c.rows c.expression c.accepting x))
      (sym add.1)
      (record {
        goes = (
          known_added h.progress i a r q.row q.next j f.0 f.1 (next_in space),
          still_roomy space j k.states c.expression c.accepting refl refl h.roomy.states_fit,
        );
        kept = refl;
      }))
  met_known f (Err x) n z add = no_arc add.0 refl

  new_met : FirstEqual c.expression k.states r None → k.states < rooms.states → (j s : ℕ) → j ≡ k.states → s ≡ k.states + 1
      → (w : Result Unit NoRoom) (n : ℕ) (z : ArcColumns) → ArcAdded rooms.arcs k.arcs c.arcs (arc i a j) w n z
      → Met c k rooms i a r w (record { rows = k.rows; states = s; arcs = n })
      (lent c.rows (set c.expression k.states r) (set c.accepting k.states (cond (empty_word (tree_at c.rows r)) 1 0)) z)
  new_met f room j s ej es (Ok u) n z add =
      let o = h.roomy in
      let flag : ℕ = cond (empty_word (tree_at c.rows r)) 1 0 in
      let column : List ℕ = set c.expression k.states r in
      let flags : List ℕ = set c.accepting k.states flag in
      let space = add.0 in
      subst (λ (m : ℕ). Met c k rooms i a r (Ok u) (record { rows = k.rows; states = m; arcs = n }) (lent c.rows column flags z)) (sym es)
      (subst (λ (m : ℕ). Met c k rooms i a r (Ok u) (record { rows = k.rows; states = k.states + 1; arcs = m }) (lent c.rows column flags z)) (sym add.2)
      (subst (λ x. Met c k rooms i a r (Ok u) (record { rows = k.rows; states = k.states + 1; arcs = k.arcs + 1 }) (lent c.rows column flags x))
      (sym (add.1 ∙ ap (λ (m : ℕ). with_arc c.arcs k.arcs (arc i a m)) ej))
      (record {
        goes = (
          new_added h.progress i a r q.row q.next flag f refl (lt_of_lt_of_le room o.states_in) (lt_of_lt_of_le room o.accepting_in) (next_in space),
          still_roomy space k.states (k.states + 1) column flags (length-set c.expression k.states r) (length-set c.accepting k.states flag)
              (omega arith),
        );
        kept = refl;
      })))
  new_met f room j s ej es (Err x) n z add = no_arc add.0 refl

  -- A new state, and the arc to it, or no room for the arc.
  pub met_new : FirstEqual c.expression k.states r None → {j s : ℕ} {column flags : List ℕ} {accepts : Bool} → accepts ≡ empty_word (tree_at c.rows r)
      → StateAdded rooms.states k.states c.expression c.accepting r (cond accepts 1 0) (Ok j) s column flags
      → (w : Result Unit NoRoom) (n : ℕ) (z : ArcColumns) → ArcAdded rooms.arcs k.arcs c.arcs (arc i a j) w n z
      → Met c k rooms i a r w (record { rows = k.rows; states = s; arcs = n }) (lent c.rows column flags z)
  met_new f {j} {s} {flags = flags} is new w n z add =
      let (room, ej, ex, ef, es) = new in
      subst (λ x. Met c k rooms i a r w (record { rows = k.rows; states = s; arcs = n }) (lent c.rows x flags z)) (sym ex)
      (subst (λ x. Met c k rooms i a r w (record { rows = k.rows; states = s; arcs = n }) (lent c.rows (set c.expression k.states r) x z)) (sym (ef ∙ ap (λ (b : Bool). set c.accepting k.states (cond b 1 0)) is))
      (new_met f room j s ej es w n z add))
