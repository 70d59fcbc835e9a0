-- A step along a side's list, from a step along its child's and the join of the member found.
use Prim.Native.Nat.{ℕ, ◌<◌}
use mathlib.Core.Path.{◌≡◌, refl, sym, ap, ◌∙◌, subst}
use mathlib.Core.Logic.{◌⊎◌, inl, inr, ⊎_elim}
use mathlib.Core.List.Memᴰ
use mathlib.Core.List.{List, map, Memᴰ}
use Rattle.theory.specs.Expression.{Expression}
use Rattle.theory.specs.Derivative.{derivative}
use Rattle.theory.specs.Table.{Table, trees, tree_at}
use Rattle.theory.proofs.Bounds.Parts.{part_whole}
use Rattle.theory.proofs.Trees.{to_trees}
use Rattle.std.specs.Prelude.{Option, Some, None, Result, Ok, Err, IsErr}
use Rattle.derive.specs.declared.rows.NoRoom.{NoRoom}
use Rattle.derive.specs.declared.sides.Join.{Join}
use Rattle.derive.specs.declared.sides.Side.{Side}
use Rattle.derive.specs.Rows.{Rows, Held, Interns}
use Rattle.derive.specs.Sides.{WithinRow, beside, side_list, lowered}
use Rattle.derive.specs.Walk.{behind, first_of, to_come, InList, lowered_place, PartOf, Gives, Steps}
use Rattle.derive.proofs.Coming.{came_for, short_for, answered_then}
use Rattle.derive.proofs.Growing.{grown_tree}
use Rattle.derive.proofs.Joining.{beside_tells, beside_parts}
use Rattle.derive.proofs.Listing.{first_none, first_member, first_map, behind_map}
use Rattle.derive.proofs.Lowering.{Lowers, lowers}
use Rattle.derive.proofs.Stepping.{gives_as, gives_short, to_come_within}

-- ---- The place in the child's list

module _ {t : Table} {n other : ℕ} (h : Rows t n) (join : Join) (lo : other < n) (ms : List Expression) where
  abbrev with_other : Expression → Expression
  with_other = beside join (tree_at t other)

  -- A place and the child's place stand for the same members to come.
  record LoweredWell (place inner : Option ℕ) : Type 0 where
    in_list : InList t n inner ms
    coming : to_come t place (map with_other ms) ≡ map with_other (to_come t inner ms)

  behind_well : (p : ℕ) → p < n → Memᴰ (tree_at t p) (map with_other ms) → (r : Option ℕ) → Lowers t n other join p r
      → LoweredWell (Some p) r
  behind_well p l m (Some q) k =
      let i = Memᴰ.of_map with_other ms m in
      record {
        in_list = (k.0, Memᴰ.cast (beside_tells join (tree_at t other) _ _ (k.1 ∙ sym i.2)) i.1);
        coming = ap (λ e. behind e (map with_other ms)) (sym k.1) ∙ behind_map with_other (beside_tells join (tree_at t other)) (tree_at t q) ms;
      }
  behind_well p l m None k = let i = Memᴰ.of_map with_other ms m in absurd (k i.0 i.2)

  place_well : (place : Option ℕ) → InList t n place (map with_other ms) → LoweredWell place (lowered_place t other join place)
  place_well None i = record { in_list = tt; coming = refl }
  place_well (Some p) i = behind_well p i.0 i.1 (lowered t other join p) (lowers h i.0 lo join)

-- A place in a side's list and the place in its child's list that the code has found for it.
pub record Inner (t : Table) (n a : ℕ) (side : Option Side) (s : Side) (place inner : Option ℕ) : Type 0 where
  pub rows : Rows t n
  pub is : side ≡ Some s
  pub within : WithinRow n n side
  pub place_in : InList t n place (side_list a t side)
  pub lowered : inner ≡ lowered_place t s.other s.join place

-- The table is seen as u.
pub inner_told : {t u : Table} {n : ℕ} (a : ℕ) {side : Option Side} {s : Side} (place : Option ℕ) {inner : Option ℕ} → Rows t n → u ≡ t
    → side ≡ Some s → WithinRow n n side → InList t n place (side_list a t side) → inner ≡ lowered_place u s.other s.join place
    → Inner t n a side s place inner
inner_told a {s = s} place h view e w i q =
    record { rows = h; is = e; within = w; place_in = i; lowered = q ∙ ap (λ v. lowered_place v s.other s.join place) view }

module _ {t : Table} {n a : ℕ} {side : Option Side} {s : Side} {place inner : Option ℕ} (k : Inner t n a side s place inner) where
  abbrev ms : List Expression
  ms = derivative a (tree_at t s.child)

  abbrev joined_with : Expression → Expression
  joined_with = beside s.join (tree_at t s.other)

  rows_in : (s.child < n) × (s.other < n)
  rows_in = subst (WithinRow n n) k.is k.within

  well : LoweredWell k.rows s.join rows_in.1 ms place inner
  well =
      subst (LoweredWell k.rows s.join rows_in.1 ms place) (sym k.lowered)
      (place_well k.rows s.join rows_in.1 ms place (subst (λ z. InList t n place (side_list a t z)) k.is k.place_in))

  pub child_within : s.child < n
  child_within = rows_in.0

  pub inner_in : InList t n inner ms
  inner_in = well.in_list

  inner_to_come : to_come t place (side_list a t side) ≡ map joined_with (to_come t inner ms)
  inner_to_come = ap (λ z. to_come t place (side_list a t z)) k.is ∙ well.coming

  -- What is needed for the child's list is needed for the side's, or is the literal empty word.
  needed_side : (z : Expression) → PartOf ms z → Memᴰ z (trees t n) ⊎ PartOf (side_list a t side) z
  needed_side z part =
      let (m, h, p) = part in
      ⊎_elim (λ e. inl (Memᴰ.cast (e ∙ sym k.rows.literal) (to_trees t n 0 k.rows.nonempty)))
      (λ q. inr (joined_with m, subst (λ z. Memᴰ (joined_with m) (side_list a t z)) (sym k.is) (Memᴰ.map joined_with h), q))
      (beside_parts s.join (tree_at t s.other) m p)

  module _ {room : ℕ} {t₁ : Table} {u : ℕ} where
    -- The child's step found a member.
    module _ {row : ℕ} {o : Option ℕ} (g : Gives t n room ms (to_come t inner ms) (Ok o) t₁ u) (e : o ≡ Some row) where
      pub found : Held t n room (PartOf ms) (λ z. first_of (to_come t inner ms) ≡ Some z) row t₁ u
      found = (gives_as (ap (λ v. Ok v) e) g).outcome

      abbrev lifted : Expression
      lifted = beside s.join (tree_at t₁ s.other) (tree_at t₁ row)

      lifted_first : first_of (to_come t place (side_list a t side)) ≡ Some lifted
      lifted_first =
          ap first_of inner_to_come ∙ first_map joined_with (to_come t inner ms) found.is
          ∙ ap (λ o. Some (beside s.join o (tree_at t₁ row))) (sym (grown_tree found.came.grown rows_in.1))

      lifted_part : (z : Expression) → z ≡ lifted → PartOf (side_list a t side) z
      lifted_part z e = (
        lifted,
        to_come_within t place (side_list a t side) lifted (first_member (to_come t place (side_list a t side)) lifted_first),
        Memᴰ.cast e (part_whole lifted),
      )

      -- It is joined, found or added; or there is no room for it.
      pub side_lifted : {i : ℕ} {t₂ : Table} {v : ℕ} → Interns t₁ u room lifted (Ok i) t₂ v
          → Steps t n room (side_list a t side) place (Ok (Some i)) t₂ v
      side_lifted f =
          let o = (answered_then (came_for needed_side found.came) lifted_part f).answer in
          record { outcome = record { came = o.came; there = o.there; is = lifted_first ∙ ap (λ z. Some z) (sym o.is) } }

      pub side_short : {x : NoRoom} {r : Result (Option ℕ) NoRoom} {t₂ : Table} {v : ℕ} → Interns t₁ u room lifted (Err x) t₂ v → IsErr r
          → Steps t n room (side_list a t side) place r t₂ v
      side_short {r = r} f q = gives_short r q (answered_then (came_for needed_side found.came) lifted_part f).answer

    -- The child's step ended, or had no room.
    pub side_ended : {o : Option ℕ} → Gives t n room ms (to_come t inner ms) (Ok o) t₁ u → o ≡ None
        → Steps t n room (side_list a t side) place (Ok None) t₁ u
    side_ended g e =
        let o = (gives_as (ap (λ v. Ok v) e) g).outcome in
        record {
          outcome =
              record {
                came = came_for needed_side o.came;
                nothing_left = ap first_of (inner_to_come ∙ ap (map joined_with) (first_none (to_come t inner ms) o.nothing_left));
              };
        }

    pub side_full : {x : NoRoom} {r : Result (Option ℕ) NoRoom} → Gives t n room ms (to_come t inner ms) (Err x) t₁ u → IsErr r
        → Steps t n room (side_list a t side) place r t₁ u
    side_full {r = r} g e = gives_short r e (short_for needed_side g.outcome)
