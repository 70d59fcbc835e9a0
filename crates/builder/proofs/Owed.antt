-- What `build` owes, way by way: columns that differ, a table that is refused, a room that is exceeded, the automaton.
use Prim.Native.Nat.{ℕ, ◌≤◌, min}
use native.Mathlib.Nat.{min-le_left, min-le_right}
use native.Mathlib.Omega.{arith}
use mathlib.Core.Path.{◌≡◌, refl, sym, ap, ◌∙◌, subst}
use mathlib.Core.Bool.{Bool, true, false, cond, true≢false}
use mathlib.Core.Logic.{inl, inr}
use borrow.Author.Tests.{ne_eqb}
use Rattle.theory.specs.Refusal.{Refusal, refusal, success, columns_differ, room_small}
use Rattle.theory.specs.Column.{zeros}
use Rattle.theory.specs.Table.{Table, tree, table_refusal}
use Rattle.theory.specs.Build as Build
use Rattle.theory.specs.Build.{Lent, EvenLent, Cleared, even, over_room, build_refusal, expression_room, state_room, arc_room, OverRoom, of_expressions, of_states, of_arcs}
use Rattle.theory.specs.Limit.{most_expressions, most_states, most_arcs}
use Rattle.theory.specs.Meetings.{meetings}
use Rattle.theory.proofs.Answers.{counts_built, counts_refused}
use Rattle.theory.proofs.Tests.{false_of}
use Rattle.theory.proofs.BuilderRefusal.{even_iff, over_iff, refusal_by}
use Rattle.std.specs.Prelude.{Ok, Err, IsTrue, ◌↔◌}
use Rattle.theory.specs.Stated.{stated}
use Rattle.theory.specs.declared.refusal.Refusal.{Refusal as CodeRefusal}
use Rattle.theory.specs.declared.refusal.Cause.TheVariants.{RoomSmall}
use Rattle.theory.proofs.Stated.{number_some}
use Rattle.builder.specs.Answer.{answer}
use Rattle.builder.specs.Columns.{Counts, rooms_of}
use Rattle.builder.specs.Progress.{Progress, Roomy, Exceeds, Blank}
use Rattle.builder.proofs.Lengths.{SameLengths, no_arcs_same, cleared_lengths}
use Rattle.builder.proofs.Finishing.{all_states, all_rows, all_arcs, stands}

pub cleared_blank : {c c' : Lent} → even c ≡ true → Cleared c c' → Blank (rooms_of c') c'
cleared_blank {c} {c'} e h =
    let l = cleared_lengths h in
    let v = (even_iff c).0 e in
    record {
      begins =
          record {
            left_length = l.left ∙ v.rows.0 ∙ sym l.kind;
            right_length = l.right ∙ v.rows.1 ∙ sym l.kind;
            kind_zero = h.kind ∙ ap zeros (sym l.kind);
            left_zero = h.left ∙ ap zeros (sym l.left);
            right_zero = h.right ∙ ap zeros (sym l.right);
            expression_zero = h.expression ∙ ap zeros (sym l.expression);
            accepting_zero = h.accepting ∙ ap zeros (sym l.accepting);
            rows_in = min-le_left _ _;
            rows_small = min-le_right _ _;
            states_in = min-le_left _ _;
            accepting_in = as_long (sym (l.accepting ∙ v.states ∙ sym l.expression)) (min-le_left _ _);
          };
      states_small = min-le_right _ _;
      arcs_zero = h.arcs ∙ sym (no_arcs_same l.arcs);
      arcs_in = record {
        from = min-le_left _ _;
        letter = as_long (sym (l.arcs.letter ∙ v.arcs.letter ∙ sym l.arcs.from)) (min-le_left _ _);
        to = as_long (sym (l.arcs.to ∙ v.arcs.to ∙ sym l.arcs.from)) (min-le_left _ _);
      };
      arcs_small = min-le_right _ _;
    }
  where
    as_long : {k m n : ℕ} → m ≡ n → k ≤ m → k ≤ n
    as_long {k} e l = subst (λ (n : ℕ). k ≤ n) e l

-- ---- Refusals

-- The refusals that come before the rooms'.
abbrev before_room : Table → Lent → Refusal
before_room g c = cond (even c) (table_refusal g) (refusal columns_differ 0)

even_is : (c : Lent) (b : Bool) → IsTrue b ↔ EvenLent c → b ≡ even c
even_is c true h = sym ((even_iff c).1 (h.0 refl))
even_is c false h = sym (false_of (even c) (λ e. true≢false (sym (h.1 ((even_iff c).0 e)))))

-- The same, by the test of the lent columns.
pub as_tested : (g : Table) (c : Lent) {b : Bool} → IsTrue b ↔ EvenLent c → {r : Refusal} → r ≡ cond b (table_refusal g) (refusal columns_differ 0)
    → r ≡ before_room g c
as_tested g c {b} h e = e ∙ ap (λ (y : Bool). cond y (table_refusal g) (refusal columns_differ 0)) (even_is c b h)

module _ {g : Table} {c c' : Lent} where
  refuses : (r : Refusal) → build_refusal g c ≡ r → (r.number ≡ 0 → ⊥) → Cleared c c'
      → Build.Built g c (record { refusal = r; states = 0; expressions = 0; arcs = 0 }) c'
  refuses r e n h =
      let no_zero : (build_refusal g c).number ≡ 0 → ⊥ = λ z. n (ap (λ (s : Refusal). s.number) (sym e) ∙ z) in
      record {
        answers = ap (λ (s : Refusal). record { refusal = s; states = 0; expressions = 0; arcs = 0 }) (sym e) ∙ sym (counts_refused g c no_zero);
        refused = λ _. h;
        stands = λ z. absurd (no_zero z);
      }

  -- 01's first refusals: of the lent columns, then of the table.
  pub built_refused : (r : CodeRefusal) → stated r ≡ before_room g c → Cleared c c' → Build.Built g c (answer (Err r)) c'
  built_refused r e h = refuses (stated r) (by (even c) refl (sym e)) (number_some r.cause) h
    where
      by : (b : Bool) → even c ≡ b → before_room g c ≡ stated r → build_refusal g c ≡ stated r
      by true e w =
          refusal_by g c e (ap (λ (b : Bool). cond b (table_refusal g) (refusal columns_differ 0)) (sym e) ∙ w) refl
          ∙ ap (λ (b : Bool). cond b (cond (over_room (tree g) c) (refusal room_small 0) success) (stated r)) (ne_eqb (stated r).number 0 (number_some r.cause))
      by false e w = refusal_by g c e refl refl ∙ ap (λ (b : Bool). cond b (table_refusal g) (refusal columns_differ 0)) (sym e) ∙ w

-- No refusal is due before the rooms'.
pub passed : (g : Table) (c : Lent) → success ≡ before_room g c → (even c ≡ true) × (table_refusal g ≡ success)
passed g c s = by (even c) refl (sym s)
  where
    by : (b : Bool) → even c ≡ b → before_room g c ≡ success → (even c ≡ true) × (table_refusal g ≡ success)
    by true e w = (e, ap (λ (b : Bool). cond b (table_refusal g) (refusal columns_differ 0)) (sym e) ∙ w)
    by false e w =
        let z : ◌≡◌ {A = ℕ} 1 0 = ap (λ (v : Refusal). v.number) (ap (λ (b : Bool). cond b (table_refusal g) (refusal columns_differ 0)) (sym e) ∙ w) in
        absurd (omega arith)

-- ---- The table is fine

module _ (g : Table) {c c₁ : Lent} (fine : (even c ≡ true) × (table_refusal g ≡ success)) (h : Cleared c c₁) where
  rooms_before : rooms_of c₁ ≡ rooms_of c
  rooms_before =
      let l = cleared_lengths h in
      (λ i. record { rows = min (l.kind i) most_expressions; states = min (l.expression i) most_states; arcs = min (l.arcs.from i) most_arcs })

  pub built_short : {c' : Lent} → Exceeds (tree g) (rooms_of c₁) → Cleared c c' → Build.Built g c (answer (Err (record { cause = RoomSmall; place = 0 }))) c'
  built_short exceeds cleared =
      refuses (refusal room_small 0) (refusal_by g c fine.0 fine.1 ((over_iff (tree g) c).1 (over (subst (Exceeds (tree g)) rooms_before exceeds))))
      (λ z. omega arith) cleared
    where
      over : Exceeds (tree g) (rooms_of c) → OverRoom (tree g) c
      over (inl l) = of_expressions l
      over (inr (inl l)) = of_states l
      over (inr (inr l)) = of_arcs l

  module _ {c' : Lent} {k : Counts} (p : Progress (tree g) (meetings (tree g)) c' k) (o : Roomy c' (rooms_of c₁) k) where
    fits : OverRoom (tree g) c → ⊥
    fits (of_expressions l) = omega (arith, l, o.rows_fit, ap (λ (r : Counts). r.rows) rooms_before, all_rows p)
    fits (of_states l) = omega (arith, l, o.states_fit, ap (λ (r : Counts). r.states) rooms_before, all_states p)
    fits (of_arcs l) = omega (arith, l, o.arcs_fit, ap (λ (r : Counts). r.arcs) rooms_before, all_arcs p)

    pub built_whole : SameLengths c c' → Build.Built g c (answer (Ok (record { states = k.states; expressions = k.rows; arcs = k.arcs }))) c'
    built_whole lengths =
        let z : (build_refusal g c).number ≡ 0 =
        ap (λ (r : Refusal). r.number) (refusal_by g c fine.0 fine.1 (false_of (over_room (tree g) c) (λ o. fits ((over_iff (tree g) c).0 o)))) in
        record {
          answers =
              (λ i. record { refusal = success; states = all_states p i; expressions = all_rows p i; arcs = all_arcs p i })
              ∙ sym (counts_built g c z);
          refused = λ n. absurd (n z);
          stands = λ _. stands p lengths;
        }
