-- A step along a row's list: a letter's, and one of two sides from steps along these.
use Prim.Native.Nat.{ℕ}
use mathlib.Core.Path.{◌≡◌, refl, sym, ap, ap₂, ◌∙◌, subst}
use mathlib.Core.Bool.{Bool, true, false}
use mathlib.Core.Logic.{inr, ⊎_elim}
use mathlib.Core.List.Memᴰ
use mathlib.Core.List.{List, [], ◌∷◌, ◌++◌, Memᴰ}
use lib.Dec.{eqb}
use Rattle.theory.specs.Expression.{Expression, same, ε}
use Rattle.theory.specs.Distinct.{beyond}
use Rattle.theory.specs.Derivative.{derivative}
use Rattle.theory.specs.Table.{Table, Row, tree_at}
use Rattle.std.specs.Prelude.{Option, Some, None, Result, Ok, Err, IsErr}
use Rattle.derive.specs.declared.rows.NoRoom.{NoRoom}
use Rattle.derive.specs.declared.sides.Side.{Side}
use Rattle.derive.specs.Rows.{Fitted}
use Rattle.derive.specs.Sides.{WithinRow, side_list}
use Rattle.derive.specs.Walk.{behind, first_of, to_come, InList, Stands, PlaceAmong, PartOf, letter_step, Ended, Gives, Steps}
use Rattle.derive.proofs.Coming.{came_none, came_for, short_for}
use Rattle.derive.proofs.Listing.{first_none, first_append, behind_first, behind_second, behind_beyond, behind_head, distinct_beyond}
use Rattle.derive.proofs.Membership.{Lettered, letter_list, TwoSides, left_within, right_within, lists, left_has, right_has, sides_have}
use Rattle.derive.proofs.Siding.{side_no_repeats}
use Rattle.derive.proofs.Stepping.{gives_as, gives_short, part_within, gives_then, grown_list, grown_side}

-- ---- A letter's row

module _ {t : Table} {n room i : ℕ} {w : Row} (k : Lettered t n i w) (f : Fitted t n room) (a : ℕ) where
  abbrev own : List Expression
  own = derivative a (tree_at t i)

  -- The list is at its end.
  none_left : (place : Option ℕ) → first_of (to_come t place own) ≡ None → Steps t n room own place (Ok None) t n
  none_left place e = record { outcome = record { came = came_none (PartOf own) f; nothing_left = e } }

  by_test : (b : Bool) → eqb w.left a ≡ b → (place : Option ℕ) → InList t n place own → Steps t n room own place (Ok (letter_step b place)) t n
  by_test true e None j =
      record {
        outcome =
            record {
              came = came_none (PartOf own) f;
              there = f.rows.nonempty;
              is = ap first_of (letter_list k a true e) ∙ ap (λ z. first_of (z ∷ [])) (sym f.rows.literal);
            };
      }
  by_test true e (Some p) j =
      let only = Memᴰ.eq_of_singleton (subst (Memᴰ (tree_at t p)) (letter_list k a true e) j.1) in
      none_left (Some p) (ap₂ (λ r ms. first_of (behind r ms)) only (letter_list k a true e) ∙ ap first_of (behind_head ε []))
  by_test false e None j = none_left None (ap first_of (letter_list k a false e))
  by_test false e (Some p) j = absurd (Memᴰ.not-nil (subst (Memᴰ (tree_at t p)) (letter_list k a false e) j.1))

  pub letter_steps : (place : Option ℕ) {r : Option ℕ} → InList t n place own → r ≡ letter_step (eqb w.left a) place
      → Steps t n room own place (Ok r) t n
  letter_steps place j q = gives_as (ap (λ s. Ok s) (sym q)) (by_test (eqb w.left a) refl place j)

-- ---- A list of two

-- The list ms is xs and what ys has beyond it.
module _ (t : Table) {ms : List Expression} (xs ys : List Expression) (e : ms ≡ xs ++ beyond same xs ys) where
  coming_left : (p : Option ℕ) → Stands t p xs → to_come t p ms ≡ to_come t p xs ++ beyond same xs ys
  coming_left None m = e
  coming_left (Some p) m = ap (behind (tree_at t p)) e ∙ behind_first (tree_at t p) xs (beyond same xs ys) m

  coming_right : (p : Option ℕ) → (Stands t p xs → ⊥) → to_come t p ms ≡ beyond same xs (to_come t p ys)
  coming_right None d = absurd (d tt)
  coming_right (Some p) d =
      ap (behind (tree_at t p)) e ∙ behind_second (tree_at t p) xs (beyond same xs ys) d ∙ behind_beyond (tree_at t p) xs ys d

-- ---- A row with two sides

module _ {t : Table} {n i : ℕ} {x y : Option Side} (k : TwoSides t n i x y) (a : ℕ) where
  abbrev whole : List Expression
  whole = derivative a (tree_at t i)

  abbrev A : List Expression
  A = side_list a t x

  abbrev B : List Expression
  B = side_list a t y

  two_lists : whole ≡ A ++ beyond same A B
  two_lists = lists k a ∙ distinct_beyond A B (side_no_repeats a t x) (side_no_repeats a t y)

  -- Whether the walk of x's list goes on is asked of the table as it is seen, u.
  module _ (place : Option ℕ) {u : Table} (view : u ≡ t) where
    pub stands : Stands u place (side_list a u x) → Stands t place A
    stands m = subst (λ v. Stands v place (side_list a v x)) view m

    pub stands_not : (Stands u place (side_list a u x) → ⊥) → Stands t place A → ⊥
    stands_not d = subst (λ v. Stands v place (side_list a v x) → ⊥) view d

  module _ (place : Option ℕ) (j : InList t n place whole) where
    pub place_among : PlaceAmong t x place
    place_among = go place j
      where
        go : (p : Option ℕ) → InList t n p whole → PlaceAmong t x p
        go None m = tt
        go (Some r) m = record { count = n; rows = k.rows; side_in = left_within k; member_in = m.0 }

    pub left_place : Stands t place A → InList t n place A
    left_place = go place j
      where
        go : (p : Option ℕ) → InList t n p whole → Stands t p A → InList t n p A
        go None m s = tt
        go (Some r) m s = (m.0, s)

    pub right_place : (Stands t place A → ⊥) → InList t n place B
    right_place = go place j
      where
        go : (p : Option ℕ) → InList t n p whole → (Stands t p A → ⊥) → InList t n p B
        go None m d = tt
        go (Some r) m d = (m.0, ⊎_elim (λ s. absurd (d s)) (λ s. s) (sides_have k a (tree_at t r) m.1))

  module _ {room : ℕ} (f : Fitted t n room) (place : Option ℕ) where
    -- The left side's step found a member.
    pub step_found : {o : Option ℕ} {m : ℕ} {t' : Table} {u : ℕ} → Stands t place A → Steps t n room A place (Ok o) t' u → o ≡ Some m
        → Steps t n room whole place (Ok (Some m)) t' u
    step_found d g e =
        let o = (gives_as (ap (λ v. Ok v) e) g).outcome in
        record {
          outcome =
              record {
                came = came_for (λ z p. inr (part_within (left_has k a) z p)) o.came;
                there = o.there;
                is = ap first_of (coming_left t A B two_lists place d) ∙ first_append (to_come t place A) (beyond same A B) o.is;
              };
        }

    -- It had no room.
    pub step_full : {x' : NoRoom} {r : Result (Option ℕ) NoRoom} {t' : Table} {u : ℕ} → Steps t n room A place (Err x') t' u → IsErr r
        → Steps t n room whole place r t' u
    step_full {r = r} g e = gives_short r e (short_for (λ z p. inr (part_within (left_has k a) z p)) g.outcome)

    -- The place is one of the right side's that the left side does not have.
    pub step_right : (Stands t place A → ⊥) → (r : Result (Option ℕ) NoRoom) {t' : Table} {n' : ℕ}
        → Gives t n room B (beyond same A (to_come t place B)) r t' n' → Steps t n room whole place r t' n'
    step_right d r g = gives_then (came_none (PartOf whole) f) (right_has k a) (ap first_of (coming_right t A B two_lists place d)) r g

    -- The left side's list has ended, in the table t' with u rows, and the walk goes on at the start of the right side.
    module _ {o : Option ℕ} {u : ℕ} {t' : Table} (g : Steps t n room A place (Ok o) t' u) (e : o ≡ None) where
      pub ended : Ended t n room A (to_come t place A) t' u
      ended = (gives_as (ap (λ v. Ok v) e) g).outcome

      pub ended_sides : WithinRow u u x × WithinRow u u y
      ended_sides = (grown_side ended.came.grown x (left_within k), grown_side ended.came.grown y (right_within k))

      coming : Stands t place A → to_come t place whole ≡ beyond same A B
      coming m =
          coming_left t A B two_lists place m ∙ ap (λ l. l ++ beyond same A B) (first_none (to_come t place A) ended.nothing_left)

      pub step_on : Stands t place A → (r : Result (Option ℕ) NoRoom) {t'' : Table} {v : ℕ}
          → Gives t' u room (side_list a t' y) (beyond same (side_list a t' x) (side_list a t' y)) r t'' v → Steps t n room whole place r t'' v
      step_on m r {t''} {v} h =
          gives_then (came_for (λ z p. inr (part_within (left_has k a) z p)) ended.came) (right_has k a) (ap first_of (coming m)) r
          (subst (λ b. Gives t' u room b (beyond same A b) r t'' v) (grown_list ended.came.grown a y (right_within k))
          (subst (λ b. Gives t' u room (side_list a t' y) (beyond same b (side_list a t' y)) r t'' v)
          (grown_list ended.came.grown a x (left_within k)) h))
