-- State 0: the literal empty word as row 0, the given expression after it.
use Prim.Native.Nat.{ℕ, ◌+◌, ◌-◌, ◌≤◌, ◌<◌}
use native.Mathlib.Numerals.{sub-one}
use native.Mathlib.Nat.{le_refl, lt_of_lt_of_le, zero-lt-suc}
use native.Mathlib.Omega.{arith}
use mathlib.Core.Path.{◌≡◌, refl, sym, ap, ◌∙◌, subst}
use mathlib.Core.Logic.{◌⊎◌, inl, inr, ⊎_elim}
use mathlib.Core.Bool.{Bool, true, false, cond, true≢false}
use mathlib.Core.List.Memᴰ
use mathlib.Core.List.{List, [], ◌∷◌, map, Memᴰ}
use lib.ListN.{length, get_or, set, length-set}
use lib.Seq.{get_or-set_same, get_or-set_other}
use Rattle.theory.specs.Expression.{Expression, ε, parts}
use Rattle.theory.specs.Distinct.{distinct, without}
use Rattle.theory.specs.Derivative.{empty_word}
use Rattle.theory.specs.Automaton.{states, expressions}
use Rattle.theory.specs.Column.{zeros, filled}
use Rattle.theory.specs.Table.{Table, table, row, entry, of_ε, trees, tree, tree_at, size, table_refusal}
use Rattle.theory.specs.Build.{Lent, lent, Names}
use Rattle.theory.proofs.Rooted.{tree_ε}
use Rattle.theory.proofs.Sound.{faultless_sound}
use Rattle.theory.proofs.WellFormed.{well_formed, tree_last}
use Rattle.theory.proofs.States.{states_some, states_first}
use Rattle.theory.proofs.Nearing.{parts_needed, ε_needed}
use Rattle.theory.specs.Meetings.{so_far}
use Rattle.theory.specs.Arcs.{ArcColumns, arc_columns, no_arcs, filled_arcs}
use Rattle.theory.proofs.Column.{get_or_zeros, zero_filled, column_more}
use Rattle.std.specs.Prelude.{Result, Ok, Err, IsErr}
use Rattle.theory.specs.Kind
use Rattle.derive.specs.Rows.{Rows, Held, Short, SoundTo}
use Rattle.derive.specs.declared.rows.NoRoom.{NoRoom}
use Rattle.derive.proofs.Coming.{short_exceeds}
use Rattle.builder.specs.Progress.{Progress, Exceeds, Begins, Begun, Blank, Standing, Started}
use Rattle.builder.specs.Columns.{Counts, StateAdded}
use Rattle.builder.proofs.Adding.{names_more}
use Rattle.builder.proofs.Lengths.{SameLengths}

zero_at : (column : List ℕ) (i : ℕ) → column ≡ zeros (length column) → get_or column i 0 ≡ 0
zero_at column i e = ap (λ (c : List ℕ). get_or c i 0) e ∙ get_or_zeros (length column) i

-- A need that exceeds its room, told.
begun_not : (e : Expression) {rooms : Counts} → Exceeds e rooms → (w : Result Unit NoRoom) → IsErr w
    → (n : Counts) (u : Table) (column flags : List ℕ) → Begun e rooms w n u column flags
begun_not e q (Ok u) no_ok _ _ _ _ = let z : false ≡ true = no_ok in absurd (true≢false (sym z))
begun_not e q (Err x) is_err _ _ _ _ = q

-- The given expression is needed as a state.
pub root_state : (e : Expression) → Memᴰ e (states e)
root_state e = let b = states_first e in subst (Memᴰ e) (sym b.goes_on) (Memᴰ.head refl)

module _ {rooms : Counts} {t : Table} {expression accepting : List ℕ} (h : Begins rooms t expression accepting) {k : ℕ} (is_ε : k ≡ Kind.empty_word) where
  abbrev pub with_ε : Table
  with_ε = table (set t.kind 0 k) t.left t.right

  ε_row : 0 < length t.kind → row with_ε 0 ≡ entry 1 0 0
  ε_row l = rw (get_or-set_same t.kind 0 k 0 l, zero_at t.left 0 h.left_zero, zero_at t.right 0 h.right_zero, is_ε) refl

  blank_row : (i : ℕ) → 1 ≤ i → row with_ε i ≡ entry 0 0 0
  blank_row i l =
      rw (
        get_or-set_other t.kind 0 i k 0 (λ e. omega arith),
        zero_at t.kind i h.kind_zero,
        zero_at t.left i h.left_zero,
        zero_at t.right i h.right_zero,
      )

  module _ (some : 0 < rooms.rows) where
    space : 0 < length t.kind
    space = lt_of_lt_of_le some h.rows_in

    ε_tree : tree_at with_ε 0 ≡ ε
    ε_tree = tree_ε with_ε 0 (ε_row space)

    pub ε_only : {z : Expression} → Memᴰ z (trees with_ε 1) → z ≡ ε
    unfolding trees tree_at
    ε_only m = Memᴰ.eq_of_singleton m ∙ ε_tree

    pub first_rows : Rows with_ε 1
    unfolding trees
    first_rows =
        record {
          left_length = h.left_length ∙ sym (length-set t.kind 0 k);
          right_length = h.right_length ∙ sym (length-set t.kind 0 k);
          within = simp length-set (space);
          sound = λ i l. of_ε (ap (row with_ε) (only i l) ∙ ε_row space);
          once = (Memᴰ.not-nil, tt);
          nonempty = le_refl 1;
          literal = ε_tree;
          blank = blank_row;
        }
      where
        only : (i : ℕ) → i < 1 → i ≡ 0
        only i l = omega arith

    -- All rows that come are needed.
    pub all_needed : (e : Expression) {z : Expression} → Memᴰ z (trees with_ε 1) ⊎ Memᴰ z (parts e) → Memᴰ z (expressions e)
    all_needed e {z} = ⊎_elim (λ m. Memᴰ.cast (ε_only m) (ε_needed e)) (λ m. parts_needed e e (root_state e) z m)

    -- The tree taken over, x, is the given expression e.
    pub start_short : (e x : Expression) → e ≡ x → {t' : Table} → Short with_ε 1 rooms.rows (λ z. Memᴰ z (parts x)) t' → (w : Result Unit NoRoom) → IsErr w
        → (n : Counts) (u : Table) (column flags : List ℕ) → Begun e rooms w n u column flags
    start_short e x q s w is_err = begun_not e (subst (λ y. Exceeds y rooms) (sym q) (inl (short_exceeds s (expressions x) (λ z. all_needed x)))) w is_err

    pub start_stands : (e x : Expression) → e ≡ x → (r n j s : ℕ) (accepts : Bool) (t' : Table) (column flags : List ℕ) {used : ℕ} → used ≡ 0
        → Held with_ε 1 rooms.rows (λ z. Memᴰ z (parts x)) (λ z. z ≡ x) r t' n → accepts ≡ empty_word (tree_at t' r)
        → StateAdded rooms.states used expression accepting r (cond accepts 1 0) (Ok j) s column flags
        → Standing e rooms (record { rows = n; states = s; arcs = 0 }) t' column flags
    start_stands e x q r n j s accepts t' column flags none held is new =
        let (room, ej, ex, ef, es) = new in
        let flag : ℕ = cond accepts 1 0 in
        subst (λ y. Standing y rooms (record { rows = n; states = s; arcs = 0 }) t' column flags) (sym q)
        (subst (λ (m : ℕ). Standing x rooms (record { rows = n; states = m; arcs = 0 }) t' column flags) (sym (es ∙ ap (λ (m : ℕ). m + 1) none))
        (subst (λ xs. Standing x rooms (record { rows = n; states = 1; arcs = 0 }) t' xs flags) (sym (ex ∙ ap (λ (m : ℕ). set expression m r) none))
        (subst (λ xs. Standing x rooms (record { rows = n; states = 1; arcs = 0 }) t' (set expression 0 r) xs)
        (sym (ef ∙ ap (λ (m : ℕ). set accepting m flag) none))
        (record {
          rows = held.came.grown.rows;
          needed = λ z m. all_needed x (held.came.each z m);
          rows_fit = held.came.fits;
          one_state = refl;
          no_arc = refl;
          named = names_more expression [] 0 r x blank refl (omega (arith, room, none, h.states_in)) held.there held.is;
          flags =
              column_more accepting [] 0 flag (h.accepting_zero ∙ zero_filled (length accepting)) refl (omega (arith, room, none, h.accepting_in))
              ∙ ap (λ (v : ℕ). filled (length (set accepting 0 flag)) (v ∷ [])) (ap (λ (y : Bool). cond y 1 0) (is ∙ ap empty_word held.is));
          state_room = omega (arith, room, none);
        }))))
      where
        blank : Names t' n expression []
        blank = record { within = λ i l. absurd (omega arith); named = λ i l. absurd (omega arith); blank = λ i l. zero_at expression i h.expression_zero }

pub no_rows : (e : Expression) (rooms : Counts) → rooms.rows ≡ 0 → Exceeds e rooms
no_rows e rooms q = inl (omega (arith, some (expressions e) (ε_needed e)))
  where
    some : {z : Expression} (xs : List Expression) → Memᴰ z xs → 0 < length xs
    some [] m = absurd (Memᴰ.not-nil m)
    some (x ∷ xs) m = zero-lt-suc (length xs)

pub no_states : (e : Expression) (rooms : Counts) → rooms.states ≤ 0 → (w : Result Unit NoRoom) → IsErr w
    → (n : Counts) (u : Table) (column flags : List ℕ) → Begun e rooms w n u column flags
no_states e rooms q w is_err = begun_not e (inr (inl (omega (arith, states_some e)))) w is_err

-- The given table's rows, as the check has left them.
pub given_sound : (g : Table) → (table_refusal g).number ≡ 0 → (i : ℕ) → i < size g → SoundTo g i
given_sound g e i l =
    let w = well_formed g e in
    record {
      in_kind = l;
      in_left = omega (arith, w.lengths.0);
      in_right = omega (arith, w.lengths.1);
      sound = λ j m. faultless_sound (w.faultless j (omega arith));
    }

pub given_some : (g : Table) → (table_refusal g).number ≡ 0 → 0 < size g
given_some g e = (well_formed g e).nonempty

pub given_root : (g : Table) (e : (table_refusal g).number ≡ 0) → tree g ≡ tree_at g (size g - 1)
given_root g e = tree_last (well_formed g e) ∙ ap (tree_at g) (sym (sub-one (size g)))

-- ---- Nothing is met yet

no_arcs_filled : (c : ArcColumns) → no_arcs c ≡ filled_arcs c []
no_arcs_filled c =
    λ i. arc_columns (zero_filled (length c.from) i) (zero_filled (length c.letter) i) (zero_filled (length c.to) i)

pub one_so_far : (e : Expression) → so_far e [] ≡ e ∷ []
unfolding so_far distinct without
one_so_far e = refl

module _ {e : Expression} {rooms k : Counts} {t : Table} {column flags : List ℕ} (h : Standing e rooms k t column flags) where
  pub standing_root : tree_at t (get_or column 0 0) ≡ e
  standing_root = h.named.named 0 (omega arith)

  -- From blank columns, of which `start` has changed those of rows and states.
  pub standing_started : {c : Lent} → Blank rooms c → SameLengths c (lent t column flags c.arcs)
      → Started (lent t column flags c.arcs) rooms k
  standing_started {c} b l =
      let c' = lent t column flags c.arcs in
      record {
        progress =
            subst (λ x. Progress x [] c' k) (sym standing_root)
            (record {
              rows = h.rows;
              needed = h.needed;
              state_count = h.one_state ∙ sym (ap length (one_so_far e));
              named = subst (Names t k.rows column) (sym (one_so_far e)) h.named;
              accepting = h.flags ∙ ap (λ xs. filled (length flags) (map (λ x. cond (empty_word x) 1 0) xs)) (sym (one_so_far e));
              arc_count = h.no_arc;
              arcs = b.arcs_zero ∙ no_arcs_filled c.arcs;
            });
        roomy =
            record {
              rows_in = omega (arith, b.begins.rows_in, l.kind);
              rows_small = b.begins.rows_small;
              states_in = omega (arith, b.begins.states_in, l.expression);
              accepting_in = omega (arith, b.begins.accepting_in, l.accepting);
              states_small = b.states_small;
              arcs_in = b.arcs_in;
              arcs_small = b.arcs_small;
              rows_fit = h.rows_fit;
              states_fit = omega (arith, h.one_state, h.state_room);
              arcs_fit = omega (arith, h.no_arc);
            };
      }
