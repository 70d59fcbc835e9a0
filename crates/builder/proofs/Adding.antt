-- One meeting more in the columns: the state that it leads to, found or new, and the arc.
use Prim.Native.Nat.{ℕ, suc, ◌+◌, ◌≤◌, ◌<◌}
use native.Mathlib.Decide.{ℕ_discrete}
use native.Mathlib.Numerals.{add-one}
use native.Mathlib.Omega.{arith}
use mathlib.Core.Path.{◌≡◌, refl, sym, ap, ◌∙◌, subst}
use mathlib.Core.Logic.{inl, inr}
use mathlib.Core.Bool.{cond}
use mathlib.Core.List.Memᴰ
use mathlib.Core.List.{List, [], ◌∷◌, ◌++◌, map, map-map, Memᴰ}
use lib.ListN.{length, get_or, set, length-append, get_or-append}
use lib.Seq.{get_or-set_same, get_or-set_other, append_snoc, get_or_at}
use Rattle.theory.specs.Expression.{Expression, ∅, same}
use Rattle.theory.specs.Distinct.{place}
use Rattle.theory.specs.Derivative.{empty_word}
use Rattle.theory.specs.Automaton.{Arc, arc, states}
use Rattle.theory.specs.Column.{filled}
use Rattle.theory.specs.Table.{Table, tree_at}
use Rattle.theory.specs.Build.{Lent, lent, Names}
use Rattle.theory.proofs.Distinct.{get_or_member, at_place, place_below}
use Rattle.theory.specs.Meetings.{Meeting, meeting, Starts, so_far, to_arc}
use Rattle.theory.specs.Arcs.{ArcColumns, arc_columns, Spans, with_arc, filled_arcs}
use Rattle.theory.proofs.Column.{field_more}
use Rattle.theory.proofs.Meetings.{so_far_known, so_far_new}
use Rattle.theory.proofs.Nearing.{state_number, states_enough, arcs_needed}
use Rattle.derive.proofs.Growing.{rows_differ}
use Rattle.builder.specs.Progress.{Progress, Exceeds}
use Rattle.builder.specs.Columns.{Counts, FirstEqual}
use Rattle.std.specs.Prelude.{None}

-- ---- The states' rows

pub names_more : {t : Table} {n : ℕ} (column : List ℕ) (ss : List Expression) (s r : ℕ) (x : Expression) → Names t n column ss → s ≡ length ss
    → s < length column → r < n → tree_at t r ≡ x → Names t n (set column s r) (ss ++ (x ∷ []))
names_more {t} {n} column ss s r x h q l below is =
    record {
      within = λ i m. at_within i m (ℕ_discrete i s);
      named = λ i m. at_named i m (ℕ_discrete i s);
      blank = λ i m. get_or-set_other column s i r 0 (λ e. omega (arith, size)) ∙ h.blank i (omega (arith, size));
    }
  where
    size : length (ss ++ (x ∷ [])) ≡ suc (length ss)
    size = length-append ss (x ∷ []) ∙ add-one (length ss)

    here : get_or (set column s r) s 0 ≡ r
    here = get_or-set_same column s r 0 l

    at_within : (i : ℕ) → i < length (ss ++ (x ∷ [])) → Dec (i ≡ s) → get_or (set column s r) i 0 < n
    at_within i m (yes e) = subst (λ (k : ℕ). k < n) (sym (ap (λ (k : ℕ). get_or (set column s r) k 0) e ∙ here)) below
    at_within i m (no d) = subst (λ (k : ℕ). k < n) (sym (get_or-set_other column s i r 0 d)) (h.within i (omega (arith, size)))

    at_named : (i : ℕ) → i < length (ss ++ (x ∷ [])) → Dec (i ≡ s) → tree_at t (get_or (set column s r) i 0) ≡ get_or (ss ++ (x ∷ [])) i ∅
    at_named i m (yes e) =
        ap (tree_at t) (ap (λ (k : ℕ). get_or (set column s r) k 0) e ∙ here) ∙ is ∙ sym (get_or_at ss x [] ∅ i (sym q ∙ sym e))
    at_named i m (no d) =
        ap (tree_at t) (get_or-set_other column s i r 0 d) ∙ h.named i (omega (arith, size)) ∙ sym (get_or-append ss (x ∷ []) ∅ i (omega (arith, size)))

-- ---- The arcs

-- The next arc in columns that hold those before it.
arcs_more : {A : Type 0} (f : A → Arc) (ms : List A) (m : A) (c : ArcColumns) (n : ℕ) (z : Arc) → c ≡ filled_arcs c (map f ms) → n ≡ length ms
    → Spans c (suc n) → z ≡ f m → with_arc c n z ≡ filled_arcs (with_arc c n z) (map f (ms ++ (m ∷ [])))
arcs_more f ms m c n z e q l w =
    λ i. arc_columns (column (λ (y : Arc). y.from) c.from (ap (λ (a : ArcColumns). a.from) e) l.from i)
    (column (λ (y : Arc). y.letter) c.letter (ap (λ (a : ArcColumns). a.letter) e) l.letter i)
    (column (λ (y : Arc). y.to) c.to (ap (λ (a : ArcColumns). a.to) e) l.to i)
  where
    column : (field : Arc → ℕ) (xs : List ℕ) → xs ≡ filled (length xs) (map field (map f ms)) → n < length xs
        → set xs n (field z) ≡ filled (length (set xs n (field z))) (map field (map f (ms ++ (m ∷ []))))
    column field xs h below =
        field_more (λ y. field (f y)) ms m xs n (field z) (h ∙ ap (filled (length xs)) (map-map field f ms)) q below (ap field w)
        ∙ ap (filled (length (set xs n (field z)))) (sym (map-map field f (ms ++ (m ∷ []))))

pub starts_less : {e : Expression} (done : List Meeting) (m : Meeting) → Starts e (done ++ (m ∷ [])) → Starts e done
starts_less done m s = record { rest = m ∷ s.rest; goes_on = s.goes_on ∙ append_snoc done m s.rest }

module _ {e : Expression} {done : List Meeting} {c : Lent} {k : Counts} (p : Progress e done c k) (i a r : ℕ) (row_in : r < k.rows)
    (s : Starts e (done ++ (meeting i a (tree_at c.rows r) ∷ []))) where
  -- A row that names a state so far is that state's.
  found_state : (j : ℕ) → j < k.states → get_or c.expression j 0 ≡ r → get_or (so_far e done) j ∅ ≡ tree_at c.rows r
  found_state j l q = sym (p.named.named j (subst (λ (n : ℕ). j < n) p.state_count l)) ∙ ap (tree_at c.rows) q

  -- A row that no state so far has is new.
  not_found : FirstEqual c.expression k.states r None → Memᴰ (tree_at c.rows r) (so_far e done) → ⊥
  not_found f h =
      let n = place same (tree_at c.rows r) (so_far e done) in
      let l = place_below same (tree_at c.rows r) (so_far e done) h in
      f n (omega (arith, p.state_count))
      (rows_differ p.rows (p.named.within n l) row_in (p.named.named n l ∙ at_place same (tree_at c.rows r) (so_far e done) ∅ h))

  -- The arc, once the state that it leads to stands.
  pub arc_added : (s' j : ℕ) (column flags : List ℕ) → s' ≡ length (so_far e (done ++ (meeting i a (tree_at c.rows r) ∷ [])))
      → Names c.rows k.rows column (so_far e (done ++ (meeting i a (tree_at c.rows r) ∷ [])))
      → flags ≡ filled (length flags) (map (λ y. cond (empty_word y) 1 0) (so_far e (done ++ (meeting i a (tree_at c.rows r) ∷ []))))
      → j ≡ place same (tree_at c.rows r) (states e) → Spans c.arcs (suc k.arcs)
      → Progress e (done ++ (meeting i a (tree_at c.rows r) ∷ [])) (lent c.rows column flags (with_arc c.arcs k.arcs (arc i a j)))
      (record { rows = k.rows; states = s'; arcs = k.arcs + 1 })
  arc_added s' j column flags count names accepts number space =
      let m = meeting i a (tree_at c.rows r) in
      record {
        rows = p.rows;
        needed = p.needed;
        state_count = count;
        named = names;
        accepting = accepts;
        arc_count = ap (λ (n : ℕ). n + 1) p.arc_count ∙ sym (length-append done (m ∷ []));
        arcs = arcs_more (to_arc (states e)) done m c.arcs k.arcs (arc i a j) p.arcs p.arc_count space (ap (arc i a) number);
      }

  abbrev met_so_far : List Expression
  met_so_far = so_far e (done ++ (meeting i a (tree_at c.rows r) ∷ []))

  -- A state that stands already.
  pub known_added : (j : ℕ) → j < k.states → get_or c.expression j 0 ≡ r → Spans c.arcs (suc k.arcs)
      → Progress e (done ++ (meeting i a (tree_at c.rows r) ∷ []))
      (lent c.rows c.expression c.accepting (with_arc c.arcs k.arcs (arc i a j)))
      (record { rows = k.rows; states = k.states; arcs = k.arcs + 1 })
  known_added j l q space =
      let below : j < length (so_far e done) = subst (λ (n : ℕ). j < n) p.state_count l in
      let is = found_state j l q in
      let same_states = so_far_known e done (meeting i a (tree_at c.rows r)) (Memᴰ.cast (sym is) (get_or_member (so_far e done) j ∅ below)) in
      arc_added k.states j c.expression c.accepting (p.state_count ∙ ap length (sym same_states))
      (subst (Names c.rows k.rows c.expression) (sym same_states) p.named)
      (p.accepting ∙ ap (λ ss. filled (length c.accepting) (map (λ y. cond (empty_word y) 1 0) ss)) (sym same_states))
      (sym (state_number (starts_less done _ s) j ∅ below) ∙ ap (λ y. place same y (states e)) is) space

  -- A new state, the next number.
  pub new_added : (b : ℕ) → FirstEqual c.expression k.states r None → b ≡ cond (empty_word (tree_at c.rows r)) 1 0
      → k.states < length c.expression → k.states < length c.accepting → Spans c.arcs (suc k.arcs)
      → Progress e (done ++ (meeting i a (tree_at c.rows r) ∷ []))
      (lent c.rows (set c.expression k.states r) (set c.accepting k.states b) (with_arc c.arcs k.arcs (arc i a k.states)))
      (record { rows = k.rows; states = k.states + 1; arcs = k.arcs + 1 })
  new_added b f flag lx la space =
      let grows = so_far_new e done (meeting i a (tree_at c.rows r)) (not_found f) in
      let last : get_or met_so_far k.states ∅ ≡ tree_at c.rows r =
      ap (λ ss. get_or ss k.states ∅) grows ∙ get_or_at (so_far e done) (tree_at c.rows r) [] ∅ k.states (sym p.state_count) in
      let size : length met_so_far ≡ k.states + 1 =
      ap length grows ∙ length-append (so_far e done) (tree_at c.rows r ∷ []) ∙ ap (λ (n : ℕ). n + 1) (sym p.state_count) in
      arc_added (k.states + 1) k.states (set c.expression k.states r) (set c.accepting k.states b) (sym size)
      (subst (Names c.rows k.rows (set c.expression k.states r)) (sym grows)
      (names_more c.expression (so_far e done) k.states r (tree_at c.rows r) p.named p.state_count lx row_in refl))
      (field_more (λ y. cond (empty_word y) 1 0) (so_far e done) (tree_at c.rows r) c.accepting k.states b p.accepting p.state_count la flag
      ∙ ap (λ ss. filled (length (set c.accepting k.states b)) (map (λ y. cond (empty_word y) 1 0) ss)) (sym grows))
      (sym (state_number s k.states ∅ (omega (arith, size))) ∙ ap (λ y. place same y (states e)) last) space

  -- No room for it.
  pub new_exceeds : (rooms : Counts) → FirstEqual c.expression k.states r None → rooms.states ≤ k.states → Exceeds e rooms
  new_exceeds rooms f full =
      let grows = so_far_new e done (meeting i a (tree_at c.rows r)) (not_found f) in
      inr (inl (omega (arith, states_enough s, ap length grows, length-append (so_far e done) (tree_at c.rows r ∷ []), p.state_count)))

  pub arc_exceeds : (rooms : Counts) → rooms.arcs ≤ k.arcs → Exceeds e rooms
  arc_exceeds rooms full = inr (inr (omega (arith, arcs_needed done (meeting i a (tree_at c.rows r)) s, p.arc_count)))
