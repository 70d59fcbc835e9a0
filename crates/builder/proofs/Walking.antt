-- The members of the derivative of a state by a letter, met one by one.
use Prim.Native.Nat.{ℕ, suc, ◌-◌, ◌≤◌, ◌<◌}
use native.Mathlib.Nat.{lt_of_lt_of_le, le_trans, le_of_eq}
use native.Mathlib.Omega.{arith}
use mathlib.Core.Path.{◌≡◌, refl, sym, ap, ap₂, ◌∙◌, subst}
use mathlib.Core.Logic.{◌⊎◌, inl, ⊎_elim}
use mathlib.Core.List.Memᴰ
use mathlib.Core.List.{List, [], ◌∷◌, ◌++◌, map, map-append, append_assoc, append-nil, Memᴰ}
use lib.ListN.{length, get_or, take, length-append, get_or-append}
use lib.Seq.{take-append_seam}
use Rattle.theory.specs.Expression.{Expression, ∅, parts}
use Rattle.theory.specs.Distinct.{distinct, NoRepeats, Within}
use Rattle.theory.specs.Derivative.{derivative}
use Rattle.theory.specs.Automaton.{states, expressions}
use Rattle.theory.specs.Table.{Table, trees, tree_at}
use Rattle.theory.specs.Build.{Lent, lent}
use Rattle.theory.proofs.Derivative.{derivative_no_repeats}
use Rattle.theory.proofs.Accepts.Arcs.{alphabet_iff, member_state}
use Rattle.theory.specs.Limit.{last_letter}
use Rattle.theory.specs.Meetings.{Meeting, meeting, meetings, before, Starts, so_far}
use Rattle.theory.proofs.Meetings.{so_far_begins, before_letter}
use Rattle.theory.proofs.Nearing.{starts_before, starts_member, states_begin, parts_needed}
use Rattle.derive.specs.Rows.{Grown, Short}
use Rattle.derive.specs.Walk.{PartOf, to_come, InList, Steps, first_of, behind}
use Rattle.std.specs.Prelude.{Option, Some, None, Ok, Err}
use Rattle.derive.specs.declared.rows.NoRoom.{NoRoom}
use Rattle.derive.proofs.Coming.{short_exceeds}
use Rattle.derive.proofs.Growing.{grown_tree}
use Rattle.derive.proofs.Listing.{first_some, first_none, behind_second, behind_head}
use Rattle.builder.specs.Progress.{Progress, Roomy, Exceeds, Ready, Meets, Met, met_so_far, next_met, root}
use Rattle.builder.specs.Columns.{Counts}
use Rattle.builder.proofs.Adding.{starts_less}

-- ---- The given expression, and where the meetings stand

so_far_first : (e : Expression) (done : List Meeting) → (0 < length (so_far e done)) × (get_or (so_far e done) 0 ∅ ≡ e)
unfolding so_far distinct
so_far_first e done = (omega arith, refl)

-- State 0 is the given expression.
root_is : {e : Expression} {done : List Meeting} {c : Lent} {k : Counts} → Progress e done c k → root c ≡ e
root_is {e} {done} p = p.named.named 0 (so_far_first e done).0 ∙ (so_far_first e done).1

starts_take : {e : Expression} {done : List Meeting} → Starts e done → take (length done) (meetings e) ≡ done
starts_take {done = done} s = ap (take (length done)) s.goes_on ∙ take-append_seam done s.rest

-- Progress as `meet` asks for it.
to_ready : {e : Expression} {done : List Meeting} {c : Lent} {rooms k : Counts} → Starts e done → Progress e done c k → Roomy c rooms k → Ready c rooms k
to_ready {e} {done} {c} {rooms} {k} s p o =
    let r = root_is p in
    let d : met_so_far c k ≡ done = ap₂ (λ (n : ℕ) x. take n (meetings x)) p.arc_count r ∙ starts_take s in
    record { progress = subst (λ x. Progress x (met_so_far c k) c k) (sym r) (subst (λ ms. Progress e ms c k) (sym d) p); roomy = o }

-- ---- Rows that come

abbrev pub with_rows : Lent → Table → Lent
with_rows c t = lent t c.expression c.accepting c.arcs

abbrev pub with_count : Counts → ℕ → Counts
with_count k n = record { rows = n; states = k.states; arcs = k.arcs }

progress_grown : {e : Expression} {done : List Meeting} {c : Lent} {k : Counts} {t : Table} {n : ℕ} → Progress e done c k → Grown c.rows k.rows t n
    → Within (trees t n) (expressions e) → Progress e done (with_rows c t) (with_count k n)
progress_grown {e} {done} {c} {k} {t} {n} p g within =
    record {
      rows = g.rows;
      needed = within;
      state_count = p.state_count;
      named =
          record {
            within = λ i l. lt_of_lt_of_le (p.named.within i l) g.more;
            named = λ i l. grown_tree g (p.named.within i l) ∙ p.named.named i l;
            blank = p.named.blank;
          };
      accepting = p.accepting;
      arc_count = p.arc_count;
      arcs = p.arcs;
    }

roomy_grown : {c : Lent} {rooms k : Counts} {t : Table} {n : ℕ} → Roomy c rooms k → Grown c.rows k.rows t n → n ≤ rooms.rows
    → length t.kind ≡ length c.rows.kind → Roomy (with_rows c t) rooms (with_count k n)
roomy_grown o g fits same_length =
    record {
      rows_in = le_trans o.rows_in (le_of_eq (sym same_length));
      rows_small = o.rows_small;
      states_in = o.states_in;
      accepting_in = o.accepting_in;
      states_small = o.states_small;
      arcs_in = o.arcs_in;
      arcs_small = o.arcs_small;
      rows_fit = fits;
      states_fit = o.states_fit;
      arcs_fit = o.arcs_fit;
    }

-- ---- On the way along a list

-- What is met where these members of the list of state i by the letter a are met.
abbrev met_at : Expression → ℕ → ℕ → List Expression → List Meeting
met_at e i a met = before e i (a - 1) ++ map (meeting i a) met

-- State i, the row r, is left by the letter a; the walk stands at `place`, and the members before it are met.
pub record AtMember (e : Expression) (i a r : ℕ) (rooms : Counts) (place : Option ℕ) (c : Lent) (k : Counts) : Type 0 where
  pub met : List Expression
  pub rest : List Expression
  pub split : derivative a (get_or (states e) i ∅) ≡ met ++ rest
  pub progress : Progress e (met_at e i a met) c k
  pub roomy : Roomy c rooms k
  pub row_in : r < k.rows
  pub row_is : tree_at c.rows r ≡ get_or (states e) i ∅
  pub standing : InList c.rows k.rows place (derivative a (tree_at c.rows r))
  pub coming : to_come c.rows place (derivative a (tree_at c.rows r)) ≡ rest
  pub state : i < k.states
  pub within : i < length (states e)
  pub low : 1 ≤ a
  pub high : a ≤ last_letter

-- State i has been left by all letters up to a.
pub record AtLetter (e : Expression) (i a : ℕ) (rooms : Counts) (c : Lent) (k : Counts) : Type 0 where
  pub progress : Progress e (before e i a) c k
  pub roomy : Roomy c rooms k
  pub state : i < k.states
  pub within : i < length (states e)
  pub high : a ≤ last_letter

-- What stands after a member of a list without repeats.
behind_split : {ys : List Expression} (q : Expression) (xs zs : List Expression) → NoRepeats (xs ++ (q ∷ zs)) → ys ≡ xs ++ (q ∷ zs) → behind q ys ≡ zs
behind_split q xs zs once e =
    ap (behind q) e ∙ behind_second q xs (q ∷ zs) (λ m. not_both xs once m) ∙ behind_head q zs
  where
    not_both : (us : List Expression) → NoRepeats (us ++ (q ∷ zs)) → Memᴰ q us → ⊥
    not_both [] o m = Memᴰ.not-nil m
    not_both (u ∷ us) o m = ⊎_elim (λ p. o.0 (Memᴰ.cast (sym p) (Memᴰ.append_right us (Memᴰ.head refl)))) (not_both us o.1) (Memᴰ.cases_cons m)

-- At the start of the list.
pub member_first : {e : Expression} {i a : ℕ} {rooms : Counts} {c : Lent} {k : Counts} → Progress e (before e i (a - 1)) c k → Roomy c rooms k
    → i < k.states → i < length (states e) → 1 ≤ a → a ≤ last_letter → AtMember e i a (get_or c.expression i 0) rooms None c k
member_first {e} {i} {a} {rooms} {c} {k} p o state within low high =
    let many : i < length (so_far e (before e i (a - 1))) = subst (λ (n : ℕ). i < n) p.state_count state in
    let b = states_begin (starts_before e i (a - 1) within (omega arith)) in
    let is : tree_at c.rows (get_or c.expression i 0) ≡ get_or (states e) i ∅ =
    p.named.named i many ∙ sym (ap (λ xs. get_or xs i ∅) b.goes_on ∙ get_or-append (so_far e (before e i (a - 1))) b.rest ∅ i many) in
    record {
      met = [];
      rest = derivative a (get_or (states e) i ∅);
      split = refl;
      progress = subst (λ ms. Progress e ms c k) (sym (append-nil (before e i (a - 1)))) p;
      roomy = o;
      row_in = p.named.within i many;
      row_is = is;
      standing = tt;
      coming = ap (derivative a) is;
      state = state;
      within = within;
      low = low;
      high = high;
    }

module _ {e : Expression} {i a r : ℕ} {rooms : Counts} {place : Option ℕ} {c : Lent} {k : Counts} (m : AtMember e i a r rooms place c k) where
  letter_is : suc (a - 1) ≡ a
  letter_is = let l = m.low in omega arith

  -- The list by the row is the list by the state.
  list_is : derivative a (tree_at c.rows r) ≡ derivative a (get_or (states e) i ∅)
  list_is = ap (derivative a) m.row_is

  -- A member is a state, so its parts are needed.
  member_needed : (y : Expression) → Memᴰ y (derivative a (get_or (states e) i ∅)) → Within (parts y) (expressions e)
  member_needed y h = parts_needed e y (member_state e i m.within a ((alphabet_iff a).1 (m.low, m.high)) y h)

  all_needed : (z : Expression) → Memᴰ z (trees c.rows k.rows) ⊎ PartOf (derivative a (tree_at c.rows r)) z
      → Memᴰ z (expressions e)
  all_needed z = ⊎_elim (m.progress.needed z) (λ q. member_needed q.0 (subst (Memᴰ q.0) list_is q.1) z q.2)

  pub member_short : {t : Table} → Short c.rows k.rows rooms.rows (PartOf (derivative a (tree_at c.rows r))) t → Exceeds e rooms
  member_short s = inl (short_exceeds s (expressions e) all_needed)

  -- A row comes, or stands already, that is the next member.
  module _ {row n : ℕ} {t : Table} (same_length : length t.kind ≡ length c.rows.kind)
      (s : Steps c.rows k.rows rooms.rows (derivative a (tree_at c.rows r)) place (Ok (Some row)) t n) where
    grown : Progress e (met_at e i a m.met) (with_rows c t) (with_count k n)
    grown = progress_grown m.progress s.outcome.came.grown (λ z h. all_needed z (s.outcome.came.each z h))

    next_of : (ys : List Expression) × (m.rest ≡ tree_at t row ∷ ys)
    next_of = first_some m.rest (ap first_of (sym m.coming) ∙ s.outcome.is)

    met_next : derivative a (get_or (states e) i ∅) ≡ (m.met ++ (tree_at t row ∷ [])) ++ next_of.0
    met_next = m.split ∙ ap (λ xs. m.met ++ xs) next_of.1 ∙ sym (append_assoc m.met (tree_at t row ∷ []) next_of.0)

    starts_next : Starts e (met_at e i a m.met ++ (meeting i a (tree_at t row) ∷ []))
    starts_next =
        subst (Starts e)
        (ap (λ (b : ℕ). before e i (a - 1) ++ map (meeting i b) (m.met ++ (tree_at t row ∷ []))) letter_is
        ∙ ap (λ xs. before e i (a - 1) ++ xs) (map-append (meeting i a) m.met (tree_at t row ∷ []))
        ∙ sym (append_assoc (before e i (a - 1)) (map (meeting i a) m.met) (meeting i a (tree_at t row) ∷ [])))
        (starts_member e i (a - 1) (m.met ++ (tree_at t row ∷ [])) next_of.0 m.within (omega (arith, letter_is, m.high))
        (ap (λ (b : ℕ). derivative b (get_or (states e) i ∅)) letter_is ∙ met_next))

    starts_here : Starts e (met_at e i a m.met)
    starts_here = starts_less (met_at e i a m.met) (meeting i a (tree_at t row)) starts_next

    next_is : next_met (with_rows c t) (with_count k n) i a row ≡ met_at e i a m.met ++ (meeting i a (tree_at t row) ∷ [])
    next_is =
        ap (λ xs. xs ++ (meeting i a (tree_at t row) ∷ []))
        (ap₂ (λ (j : ℕ) y. take j (meetings y)) grown.arc_count (root_is grown) ∙ starts_take starts_here)

    pub found_ready : Ready (with_rows c t) rooms (with_count k n)
    found_ready = to_ready starts_here grown (roomy_grown m.roomy s.outcome.came.grown s.outcome.came.fits same_length)

    pub found_meets : Meets (with_rows c t) (with_count k n) i a row
    found_meets =
        record {
          state = m.state;
          row = s.outcome.there;
          next = subst (λ y. Starts y (next_met (with_rows c t) (with_count k n) i a row)) (sym (root_is grown)) (subst (Starts e) (sym next_is) starts_next);
        }

    -- There is no room for it.
    pub member_full : {x : NoRoom} {k' : Counts} {c' : Lent} → Met (with_rows c t) (with_count k n) rooms i a row (Err x) k' c' → Exceeds e rooms
    member_full w = subst (λ y. Exceeds y rooms) (root_is grown) w.goes

    -- And it is met.
    module _ {u : Unit} {k' : Counts} (c' : Lent) (w : Met (with_rows c t) (with_count k n) rooms i a row (Ok u) k' (with_rows c' t)) where
      after : Progress e (met_at e i a m.met ++ (meeting i a (tree_at t row) ∷ [])) (with_rows c' t) k'
      after =
          subst (λ ms. Progress e ms (with_rows c' t) k') next_is
          (subst (λ y. Progress y (next_met (with_rows c t) (with_count k n) i a row) (with_rows c' t) k') (root_is grown) w.goes.0)

      still : tree_at t r ≡ get_or (states e) i ∅
      still = grown_tree s.outcome.came.grown m.row_in ∙ m.row_is

      list_still : derivative a (tree_at t r) ≡ m.met ++ (tree_at t row ∷ next_of.0)
      list_still = ap (derivative a) still ∙ m.split ∙ ap (λ xs. m.met ++ xs) next_of.1

      row_below : row < k'.rows
      row_below = subst (λ (j : ℕ). row < j) (sym w.kept) s.outcome.there

      come : behind (tree_at t row) (derivative a (tree_at t r)) ≡ next_of.0
      come = behind_split (tree_at t row) m.met next_of.0 (subst NoRepeats list_still (derivative_no_repeats a (tree_at t r))) list_still

      pub member_next : AtMember e i a r rooms (Some row) (with_rows c' t) k'
      member_next =
          record {
            met = m.met ++ (tree_at t row ∷ []);
            rest = next_of.0;
            split = met_next;
            progress =
                subst (λ ms. Progress e ms (with_rows c' t) k')
                (append_assoc (before e i (a - 1)) (map (meeting i a) m.met) (meeting i a (tree_at t row) ∷ [])
                ∙ ap (λ xs. before e i (a - 1) ++ xs) (sym (map-append (meeting i a) m.met (tree_at t row ∷ []))))
                after;
            roomy = w.goes.1;
            row_in = subst (λ (j : ℕ). r < j) (sym w.kept) (lt_of_lt_of_le m.row_in s.outcome.came.grown.more);
            row_is = still;
            standing = (row_below, subst (Memᴰ (tree_at t row)) (sym list_still) (Memᴰ.append_right m.met (Memᴰ.head refl)));
            coming = come;
            state =
                (let b = so_far_begins e (met_at e i a m.met) (meeting i a (tree_at t row) ∷ []) in
                let more = length-append (so_far e (met_at e i a m.met)) b.rest in
                omega (arith, m.state, m.progress.state_count, after.state_count, ap length b.goes_on));
            within = m.within;
            low = m.low;
            high = m.high;
          }

      pub member_less : rooms.arcs - k'.arcs < rooms.arcs - k.arcs
      member_less =
          let more = length-append (met_at e i a m.met) (meeting i a (tree_at t row) ∷ []) in
          omega (arith, m.progress.arc_count, after.arc_count, w.goes.1.arcs_fit)

  -- The list is at its end.
  pub member_end : {n : ℕ} {t : Table} → length t.kind ≡ length c.rows.kind
      → Steps c.rows k.rows rooms.rows (derivative a (tree_at c.rows r)) place (Ok None) t n
      → AtLetter e i a rooms (with_rows c t) (with_count k n)
  member_end {n} {t} same_length s =
      let last : m.rest ≡ [] = first_none m.rest (ap first_of (sym m.coming) ∙ s.outcome.nothing_left) in
      let all : derivative a (get_or (states e) i ∅) ≡ m.met = m.split ∙ ap (λ xs. m.met ++ xs) last ∙ append-nil m.met in
      let whole : before e i a ≡ met_at e i a m.met =
      ap (before e i) (sym letter_is) ∙ before_letter e i (a - 1)
      ∙ ap (λ (b : ℕ). before e i (a - 1) ++ map (meeting i b) (derivative b (get_or (states e) i ∅))) letter_is
      ∙ ap (λ xs. before e i (a - 1) ++ map (meeting i a) xs) all in
      record {
        progress =
            subst (λ ms. Progress e ms (with_rows c t) (with_count k n)) (sym whole)
            (progress_grown m.progress s.outcome.came.grown (λ z h. all_needed z (s.outcome.came.each z h)));
        roomy = roomy_grown m.roomy s.outcome.came.grown s.outcome.came.fits same_length;
        state = m.state;
        within = m.within;
        high = m.high;
      }
