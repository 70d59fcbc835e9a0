-- The builder's refusals: what the tests of 1 and 9 mean, with nothing of the automaton opened, and the refusal by the answers of the tests.
use mathlib.Core.Path.{◌≡◌, refl, sym, ◌∙◌}
use mathlib.Core.Logic.{◌↔◌, inl, inr, ⊎_elim}
use mathlib.Core.Bool.{Bool, true, cond, ◌&&◌, ◌||◌, and-eq-true_iff}
use lib.ListN.{length}
use lib.Dec.{eqb, ltb}
use borrow.Author.Tests.{eqb-true, eq-eqb, ltb-true, lt-ltb}
use Rattle.theory.specs.Expression.{Expression}
use Rattle.theory.specs.Refusal.{Refusal, refusal, success, or_else, columns_differ, room_small}
use Rattle.theory.specs.Table.{Table, tree, table_refusal}
use Rattle.theory.specs.Automaton.{states, arcs, expressions}
use Rattle.theory.specs.Arcs.{even_arcs}
use Rattle.theory.specs.Build.{Lent, even, over_room, build_refusal, expression_room, state_room, arc_room, EvenLent, OverRoom, of_expressions, of_states, of_arcs}
use Rattle.theory.proofs.Tests.{or_true, or_of}
use Rattle.theory.proofs.Arcs.{even_arcs_iff}

-- ---- Refusal 1

pub even_iff : (c : Lent) → (even c ≡ true) ↔ EvenLent c
unfolding even
even_iff c = (forth, back)
  where
    left : Bool
    left = eqb (length c.rows.left) (length c.rows.kind)

    right : Bool
    right = eqb (length c.rows.right) (length c.rows.kind)

    states : Bool
    states = eqb (length c.accepting) (length c.expression)

    forth : (left && right && states && even_arcs c.arcs) ≡ true → EvenLent c
    forth e =
        let (lrs, a) = (and-eq-true_iff (left && right && states) (even_arcs c.arcs)).0 e in
        let (lr, s) = (and-eq-true_iff (left && right) states).0 lrs in
        let (l, r) = (and-eq-true_iff left right).0 lr in
        record { rows = (eqb-true _ _ l, eqb-true _ _ r); states = eqb-true _ _ s; arcs = (even_arcs_iff c.arcs).0 a }

    back : EvenLent c → (left && right && states && even_arcs c.arcs) ≡ true
    back v = rw (eq-eqb _ _ v.rows.0, eq-eqb _ _ v.rows.1, eq-eqb _ _ v.states, (even_arcs_iff c.arcs).1 v.arcs)

-- ---- Refusal 9

module _ (e : Expression) (c : Lent) where
  expressions_over : Bool
  expressions_over = ltb (expression_room c) (length (expressions e))

  states_over : Bool
  states_over = ltb (state_room c) (length (states e))

  arcs_over : Bool
  arcs_over = ltb (arc_room c) (length (arcs e))

  over_by_needs : over_room e c ≡ (expressions_over || states_over || arcs_over)
  unfolding over_room expressions_over states_over arcs_over
  over_by_needs = refl

  over_found : (expressions_over || states_over || arcs_over) ≡ true → OverRoom e c
  unfolding expressions_over states_over arcs_over
  over_found q =
      ⊎_elim (λ h. ⊎_elim (λ l. of_expressions (ltb-true _ _ l)) (λ l. of_states (ltb-true _ _ l)) (or_true expressions_over states_over h))
      (λ l. of_arcs (ltb-true _ _ l)) (or_true (expressions_over || states_over) arcs_over q)

  over_of : OverRoom e c → (expressions_over || states_over || arcs_over) ≡ true
  unfolding expressions_over states_over arcs_over
  over_of (of_expressions l) = or_of (expressions_over || states_over) arcs_over (inl (or_of expressions_over states_over (inl (lt-ltb _ _ l))))
  over_of (of_states l) = or_of (expressions_over || states_over) arcs_over (inl (or_of expressions_over states_over (inr (lt-ltb _ _ l))))
  over_of (of_arcs l) = or_of (expressions_over || states_over) arcs_over (inr (lt-ltb _ _ l))

  pub over_iff : (over_room e c ≡ true) ↔ OverRoom e c
  over_iff = (λ q. over_found (sym over_by_needs ∙ q), λ o. over_by_needs ∙ over_of o)

-- ---- The refusal

-- The refusal that the answers of the tests give.
abbrev pub ordered : Bool → Refusal → Bool → Refusal
ordered even r over = cond even (or_else r (cond over (refusal room_small 0) success)) (refusal columns_differ 0)

pub refusal_by : (g : Table) (c : Lent) {b over : Bool} {r : Refusal} → even c ≡ b → table_refusal g ≡ r → over_room (tree g) c ≡ over
    → build_refusal g c ≡ ordered b r over
unfolding build_refusal
refusal_by g c q t o = λ i. ordered (q i) (t i) (o i)
