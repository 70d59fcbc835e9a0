-- The turns of `fill`, over the columns in the builder's hands. Leans on `Walking` and `Turning`.
use Prim.Native.Nat.{ℕ, ◌+◌, ◌-◌, ◌<◌}
use native.Mathlib.Omega.{arith}
use mathlib.Core.Path.{◌≡◌, refl, sym, ◌∙◌, subst}
use mathlib.Core.Bool.{true, false, true≢false}
use mathlib.Core.List.{List}
use lib.ListN.{get_or}
use Rattle.std.specs.Borrow.{MutBor}
use Rattle.std.specs.Prelude.{Option, Some, None, Result, Ok, Err, IsErr}
use Rattle.columns.specs.Kept.{Kept}
use Rattle.derive.specs.Rows.{SameRows, Fitted, rows_table}
use Rattle.derive.specs.Walk.{RowSteps, RowPlace}
use Rattle.derive.specs.declared.rows.Rows.{Rows}
use Rattle.derive.specs.declared.rows.NoRoom.{NoRoom}
use Rattle.theory.specs.Build.{Lent}
use Rattle.builder.specs.declared.letters.Letters.{Letters}
use Rattle.builder.specs.declared.states.States.{States}
use Rattle.builder.specs.declared.arcs.Arcs.{Arcs}
use Rattle.builder.specs.Letters.{IsNext, IsTurn}
use Rattle.builder.specs.Columns.{Counts, held, used_in, rooms_in, SameStates, SameArcs}
use Rattle.builder.specs.Progress.{Roomy, Exceeds, Ready, Meets, Met, Knows, Started, Reaches, root}
use Rattle.builder.proofs.Walking.{AtMember, AtLetter, member_short, found_ready, found_meets, member_full, member_next, member_less, member_end}
use Rattle.builder.proofs.Turning.{turns_left, started, next_letter, none_met, all_met, turned, turned_less}

-- ---- The same columns

kept_after : {A : Type 0} {a b d : MutBor (List A)} → Kept a b → Kept b d → Kept a d
kept_after h k = record { same = k.same ∙ h.same; length = k.length ∙ h.length }

kept_still : {A : Type 0} {a : MutBor (List A)} → Kept a a
kept_still = record { same = refl; length = refl }

rows_after : {r r₁ r' : Rows} → SameRows r r₁ → SameRows r₁ r' → SameRows r r'
rows_after h k = record { kind = kept_after h.kind k.kind; left = kept_after h.left k.left; right = kept_after h.right k.right; room = k.room ∙ h.room }

states_after : {s s₁ s' : States} → SameStates s s₁ → SameStates s₁ s' → SameStates s s'
states_after h k = record { expression = kept_after h.expression k.expression; accepting = kept_after h.accepting k.accepting; room = k.room ∙ h.room }

arcs_after : {a a₁ a' : Arcs} → SameArcs a a₁ → SameArcs a₁ a' → SameArcs a a'
arcs_after h k = record { from = kept_after h.from k.from; letter = kept_after h.letter k.letter; to = kept_after h.to k.to; room = k.room ∙ h.room }

rows_still : {r : Rows} → SameRows r r
rows_still = record { kind = kept_still; left = kept_still; right = kept_still; room = refl }

states_still : {s : States} → SameStates s s
states_still = record { expression = kept_still; accepting = kept_still; room = refl }

arcs_still : {a : Arcs} → SameArcs a a
arcs_still = record { from = kept_still; letter = kept_still; to = kept_still; room = refl }

rooms_same : {r r' : Rows} {s s' : States} {a a' : Arcs} → SameRows r r' → SameStates s s' → SameArcs a a' → rooms_in r s a ≡ rooms_in r' s' a'
rooms_same h k l = sym (λ i. record { rows = h.room i; states = k.room i; arcs = l.room i })

-- ---- A turn

-- State i, the row e, is left by the letter a; the walk stands behind `after`. The columns are those that were lent.
pub record Turn (r₀ : Rows) (s₀ : States) (a₀ : Arcs) (i a e : ℕ) (after : Option ℕ) (r : Rows) (s : States) (c : Arcs) : Type 0 where
  pub member : AtMember (root (held r₀ s₀ a₀)) i a e (rooms_in r s c) after (held r s c) (used_in r s c)
  pub rows : SameRows r₀ r
  pub states : SameStates s₀ s
  pub arcs : SameArcs a₀ c

module _ (r₀ : Rows) (s₀ : States) (a₀ : Arcs) (letters : Letters) (knows : Knows letters (root (held r₀ s₀ a₀)))
    (h : Started (held r₀ s₀ a₀) (rooms_in r₀ s₀ a₀) (used_in r₀ s₀ a₀)) where
  pub no_letter : IsNext letters 0 None
      → Reaches (root (held r₀ s₀ a₀)) (rooms_in r₀ s₀ a₀) (Ok tt) (used_in r₀ s₀ a₀) (held r₀ s₀ a₀)
  no_letter n = record { goes = (none_met letters knows h n, h.roomy) }

  pub first_turn : {first : ℕ} → IsNext letters 0 (Some first) → Turn r₀ s₀ a₀ 0 first (get_or s₀.expression.now 0 0) None r₀ s₀ a₀
  first_turn n =
      record { member = next_letter letters knows (started h) n; rows = rows_still; states = states_still; arcs = arcs_still }

module _ {r₀ : Rows} {s₀ : States} {a₀ : Arcs} {i a e : ℕ} {after : Option ℕ} {r : Rows} {s : States} {c : Arcs}
    (m : Turn r₀ s₀ a₀ i a e after r s c) where
  pub turn_fitted : Fitted (rows_table r) r.used r.room
  turn_fitted =
      let p = m.member in
      record { rows = p.progress.rows; fits = p.roomy.rows_fit; in_columns = p.roomy.rows_in; small = p.roomy.rows_small }

  pub turn_place : (e < r.used) × RowPlace (rows_table r) r.used a e after
  turn_place = (m.member.row_in, m.member.standing)

  reaches_not : Exceeds (root (held r₀ s₀ a₀)) (rooms_in r s c) → (w : Result Unit NoRoom) → IsErr w → (k : Counts) (x : Lent)
      → Reaches (root (held r₀ s₀ a₀)) (rooms_in r₀ s₀ a₀) w k x
  reaches_not q (Ok u) no_ok _ _ = let z : false ≡ true = no_ok in absurd (true≢false (sym z))
  reaches_not q (Err x) is_err _ _ =
      record { goes = subst (Exceeds (root (held r₀ s₀ a₀))) (sym (rooms_same m.rows m.states m.arcs)) q }

  module _ {r' : Rows} (same : SameRows r r') where
    pub turn_short : {x : NoRoom} → RowSteps (rows_table r) r.used r.room a e after (Err x) (rows_table r') r'.used → (w : Result Unit NoRoom) → IsErr w
        → (k : Counts) (y : Lent) → Reaches (root (held r₀ s₀ a₀)) (rooms_in r₀ s₀ a₀) w k y
    turn_short g = reaches_not (member_short m.member g.outcome)

    now : rooms_in r s c ≡ rooms_in r' s c
    now = rooms_same {s = s} {s' = s} {a = c} {a' = c} same states_still arcs_still

    module _ {x : Option ℕ} (found : RowSteps (rows_table r) r.used r.room a e after (Ok x) (rows_table r') r'.used) {row : ℕ} (is : x ≡ Some row) where
      g : RowSteps (rows_table r) r.used r.room a e after (Ok (Some row)) (rows_table r') r'.used
      g = subst (λ y. RowSteps (rows_table r) r.used r.room a e after (Ok y) (rows_table r') r'.used) is found

      pub turn_ready : Ready (held r' s c) (rooms_in r' s c) (used_in r' s c)
      turn_ready = subst (λ q. Ready (held r' s c) q (used_in r' s c)) now (found_ready m.member same.kind.length g)

      pub turn_meets : Meets (held r' s c) (used_in r' s c) i a row
      turn_meets = found_meets m.member same.kind.length g

      module _ (s' : States) (c' : Arcs) {w : Result Unit NoRoom}
          (met : Met (held r' s c) (used_in r' s c) (rooms_in r' s c) i a row w (used_in r' s' c') (held r' s' c')) where
        as_before : Met (held r' s c) (used_in r' s c) (rooms_in r s c) i a row w (used_in r' s' c') (held r' s' c')
        as_before = subst (λ q. Met (held r' s c) (used_in r' s c) q i a row w (used_in r' s' c') (held r' s' c')) (sym now) met

      pub turn_full : (s' : States) (c' : Arcs) {x : NoRoom}
          → Met (held r' s c) (used_in r' s c) (rooms_in r' s c) i a row (Err x) (used_in r' s' c') (held r' s' c') → (w : Result Unit NoRoom) → IsErr w
          → (k : Counts) (y : Lent) → Reaches (root (held r₀ s₀ a₀)) (rooms_in r₀ s₀ a₀) w k y
      turn_full s' c' met = reaches_not (member_full m.member same.kind.length g (as_before s' c' met))

      module _ (s' : States) (c' : Arcs) (states : SameStates s s') (arcs : SameArcs c c') {u : Unit}
          (met : Met (held r' s c) (used_in r' s c) (rooms_in r' s c) i a row (Ok u) (used_in r' s' c') (held r' s' c')) where
        pub turn_on : Turn r₀ s₀ a₀ i a e (Some row) r' s' c'
        turn_on =
            record {
              member =
                  subst (λ q. AtMember (root (held r₀ s₀ a₀)) i a e q (Some row) (held r' s' c') (used_in r' s' c')) (rooms_same same states arcs)
                  (member_next m.member same.kind.length g (held r' s' c') (as_before s' c' met));
              rows = rows_after m.rows same;
              states = states_after m.states states;
              arcs = arcs_after m.arcs arcs;
            }

        pub less_on : (c'.room - c'.used) + turns_left i a < (c.room - c.used) + turns_left i a
        less_on =
            let less : c.room - c'.used < c.room - c.used = member_less m.member same.kind.length g (held r' s' c') (as_before s' c' met) in
            omega (arith, arcs.room)

    module _ {x : Option ℕ} (found : RowSteps (rows_table r) r.used r.room a e after (Ok x) (rows_table r') r'.used) (is : x ≡ None) where
      over : RowSteps (rows_table r) r.used r.room a e after (Ok None) (rows_table r') r'.used
      over = subst (λ y. RowSteps (rows_table r) r.used r.room a e after (Ok y) (rows_table r') r'.used) is found

      pub turn_ended : AtLetter (root (held r₀ s₀ a₀)) i a (rooms_in r' s c) (held r' s c) (used_in r' s c)
      turn_ended =
          subst (λ q. AtLetter (root (held r₀ s₀ a₀)) i a q (held r' s c) (used_in r' s c)) now (member_end m.member same.kind.length over)

      module _ (letters : Letters) (knows : Knows letters (root (held r₀ s₀ a₀))) where
        pub turn_last : (first : ℕ) → IsTurn letters first i a s.used None → {u : Unit}
            → Reaches (root (held r₀ s₀ a₀)) (rooms_in r₀ s₀ a₀) (Ok u) (used_in r' s c) (held r' s c)
        turn_last first t =
            record {
              goes = (
                all_met letters knows turn_ended t.0 t.1,
                subst (λ q. Roomy (held r' s c) q (used_in r' s c)) (sym (rooms_same (rows_after m.rows same) m.states m.arcs)) turn_ended.roomy,
              );
            }

        module _ {first : ℕ} (least : IsNext letters 0 (Some first)) {j b : ℕ} (t : IsTurn letters first i a s.used (Some (j, b))) where
          pub turn_next : Turn r₀ s₀ a₀ j b (get_or s.expression.now j 0) None r' s c
          turn_next =
              record { member = turned letters knows least turn_ended t; rows = rows_after m.rows same; states = m.states; arcs = m.arcs }

          pub less_next : turns_left j b < turns_left i a
          less_next = turned_less letters knows least turn_ended t
