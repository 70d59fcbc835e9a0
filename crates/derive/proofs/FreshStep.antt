-- The next member of the right side that the left side does not have: members of both are passed over one at a time.
use Prim.Native.Nat.{ℕ, suc, ◌≤◌, ◌<◌}
use native.Mathlib.Nat.{le_refl}
use mathlib.Core.Path.{◌≡◌, sym, ap, ◌∙◌, subst}
use mathlib.Core.List.{List, ◌∷◌, Memᴰ}
use lib.ListN.{length}
use Rattle.theory.specs.Expression.{Expression, same}
use Rattle.theory.specs.Distinct.{beyond}
use Rattle.theory.specs.Table.{Table, tree_at}
use Rattle.theory.proofs.Distinct.{beyond_nil}
use Rattle.std.specs.Prelude.{Option, Some, None, Result, Ok, Err, IsErr}
use Rattle.derive.specs.declared.rows.NoRoom.{NoRoom}
use Rattle.derive.specs.declared.sides.Side.{Side}
use Rattle.derive.specs.Rows.{Grown, Came, Held}
use Rattle.derive.specs.Sides.{WithinRow, side_list}
use Rattle.derive.specs.Walk.{first_of, to_come, InList, PartOf, Gives, Steps}
use Rattle.derive.proofs.Coming.{came_then, short_then}
use Rattle.derive.proofs.Growing.{grown_trans}
use Rattle.derive.proofs.Listing.{first_none, first_some, first_member, beyond_keep, beyond_pass}
use Rattle.derive.proofs.Siding.{side_no_repeats}
use Rattle.derive.proofs.Stepping.{gives_as, gives_short, to_come_within, next_to_come, grown_list, grown_side}

-- Members of the side y from the place p up to the place p', all of them in the side x, have been passed over; rows that came are needed
-- for y's list.
pub record PassedOver (t : Table) (n room a : ℕ) (x y : Option Side) (p : Option ℕ) (t' : Table) (n' : ℕ) (p' : Option ℕ) : Type 0 where
  pub left_within : WithinRow n n x
  pub right_within : WithinRow n n y
  pub came : Came t n room (PartOf (side_list a t y)) t' n'
  pub place : InList t' n' p' (side_list a t y)
  pub rest : beyond same (side_list a t x) (to_come t' p' (side_list a t y)) ≡ beyond same (side_list a t x) (to_come t p (side_list a t y))

module _ {t : Table} {n room a : ℕ} {x y : Option Side} {p : Option ℕ} {t' : Table} {n' : ℕ} {p' : Option ℕ}
    (k : PassedOver t n room a x y p t' n' p') where
  abbrev xs : List Expression
  xs = side_list a t x

  abbrev ys : List Expression
  ys = side_list a t y

  pub turn_place : InList t' n' p' (side_list a t' y)
  turn_place = subst (InList t' n' p') (sym (grown_list k.came.grown a y k.right_within)) k.place

  pub turn_side : WithinRow n' n' y
  turn_side = grown_side k.came.grown y k.right_within

  -- A step along y's list, as it is once rows have come.
  module _ {t'' : Table} {u : ℕ} where
    step_then : (r : Result (Option ℕ) NoRoom) → Steps t' n' room (side_list a t' y) p' r t'' u → Steps t' n' room ys p' r t'' u
    step_then r g = subst (λ l. Steps t' n' room l p' r t'' u) (grown_list k.came.grown a y k.right_within) g

    module _ {o : Option ℕ} {row : ℕ} (g : Steps t' n' room (side_list a t' y) p' (Ok o) t'' u) (e : o ≡ Some row) where
      found : Held t' n' room (PartOf ys) (λ z. first_of (to_come t' p' ys) ≡ Some z) row t'' u
      found = (gives_as (ap (λ v. Ok v) e) (step_then (Ok o) g)).outcome

      grown : Grown t n t'' u
      grown = grown_trans k.came.grown found.came.grown

      left_then : side_list a t'' x ≡ xs
      left_then = grown_list grown a x k.left_within

      next : (zs : List Expression) × (to_come t' p' ys ≡ tree_at t'' row ∷ zs)
      next = first_some (to_come t' p' ys) found.is

      rest_then : to_come t'' (Some row) ys ≡ next.0
      rest_then = next_to_come t' t'' p' ys row next.0 (side_no_repeats a t y) next.1

      pub turn_less : length (to_come t'' (Some row) ys) < length (to_come t' p' ys)
      turn_less =
          subst (λ l. suc (length (to_come t'' (Some row) ys)) ≤ length l) (sym next.1)
          (subst (λ l. suc (length l) ≤ suc (length next.0)) (sym rest_then) (le_refl (suc (length next.0))))

      -- Whether x has the member is asked of the table as it is seen, v.
      module _ {v : Table} (view : v ≡ t'') where
        -- A member that x does not have is the next.
        pub turn_found : (Memᴰ (tree_at v row) (side_list a v x) → ⊥) → Gives t n room ys (beyond same xs (to_come t p ys)) (Ok (Some row)) t'' u
        turn_found d =
            let lacks : Memᴰ (tree_at t'' row) (side_list a t'' x) → ⊥ = subst (λ z. Memᴰ (tree_at z row) (side_list a z x) → ⊥) view d in
            let new = beyond_keep xs (tree_at t'' row) next.0 (λ m. lacks (subst (Memᴰ (tree_at t'' row)) (sym left_then) m)) in
            record {
              outcome =
                  record {
                    came = came_then k.came found.came;
                    there = found.there;
                    is = ap first_of (sym k.rest ∙ ap (beyond same xs) next.1 ∙ new);
                  };
            }

        -- A member that x has is passed over.
        pub turn_passed : Memᴰ (tree_at v row) (side_list a v x) → PassedOver t n room a x y p t'' u (Some row)
        turn_passed m =
            let has : Memᴰ (tree_at t'' row) (side_list a t'' x) = subst (λ z. Memᴰ (tree_at z row) (side_list a z x)) view m in
            record {
              left_within = k.left_within;
              right_within = k.right_within;
              came = came_then k.came found.came;
              place = (found.there, to_come_within t' p' ys _ (first_member (to_come t' p' ys) found.is));
              rest =
                  ap (beyond same xs) rest_then ∙ sym (beyond_pass xs (tree_at t'' row) next.0 (subst (Memᴰ (tree_at t'' row)) left_then has))
                  ∙ sym (ap (beyond same xs) next.1) ∙ k.rest;
            }

    -- y's list ended.
    pub turn_ended : {o : Option ℕ} → Steps t' n' room (side_list a t' y) p' (Ok o) t'' u → o ≡ None
        → Gives t n room ys (beyond same xs (to_come t p ys)) (Ok None) t'' u
    turn_ended {o} g e =
        let o = (gives_as (ap (λ v. Ok v) e) (step_then (Ok o) g)).outcome in
        record {
          outcome =
              record {
                came = came_then k.came o.came;
                nothing_left = ap first_of (sym k.rest ∙ ap (beyond same xs) (first_none (to_come t' p' ys) o.nothing_left) ∙ beyond_nil same xs);
              };
        }

    -- There was no room.
    pub turn_short : {x' : NoRoom} {r : Result (Option ℕ) NoRoom} → Steps t' n' room (side_list a t' y) p' (Err x') t'' u → IsErr r
        → Gives t n room ys (beyond same xs (to_come t p ys)) r t'' u
    turn_short {x'} {r} g e = gives_short r e (short_then k.came (step_then (Err x') g).outcome)
