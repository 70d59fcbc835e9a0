-- A tree taken over with all its parts: a leaf's row, and the row of a star or of a sign after what its children brought.
use Prim.Native.Nat.{ℕ, ◌<◌}
use native.Mathlib.Nat.{lt_of_lt_of_le}
use native.Mathlib.Omega.{arith}
use mathlib.Core.Path.{◌≡◌, sym, ap, ap₂, ◌∙◌, subst}
use mathlib.Core.Logic.{inr}
use mathlib.Core.List.Memᴰ
use mathlib.Core.List.{Memᴰ}
use Rattle.theory.specs.Expression.{Expression, pair, star, parts}
use Rattle.theory.specs.Distinct.{Within}
use Rattle.theory.specs.Table.{Table, Row, entry, Sound, of_sign, of_star, kind_of_sign, trees, tree_at, row_tree}
use Rattle.theory.proofs.Pair.{pair_left, pair_right}
use Rattle.theory.proofs.Trees.{trees_below}
use Rattle.theory.proofs.Bounds.Parts.{part_whole, part_inner}
use Rattle.theory.proofs.Sound.{sign_tree, star_tree, row_tree_cong}
use Rattle.std.specs.Prelude.{Result, Ok, Err, IsErr}
use Rattle.std.proofs.lemmas.Bool.{false≢true}
use Rattle.columns.specs.declared.row.Children.{Children}
use Rattle.columns.specs.declared.row.Children.TheVariants.{Nothing, One, Two}
use Rattle.derive.specs.declared.rows.NoRoom.{NoRoom}
use Rattle.derive.specs.Rows.{Fitted, Came, Held, Short, Interns, Takes}
use Rattle.derive.proofs.Coming.{came_none, came_for, came_then, short_for, short_then, answered_then}
use Rattle.derive.proofs.Growing.{grown_tree}
use Rattle.derive.proofs.Reading.{Read, leaf_read, star_read, star_with, sign_read}

-- The tree e is taken over as row i.
abbrev pub Took : Table → ℕ → ℕ → Expression → ℕ → Table → ℕ → Type 0
Took t n room e = Held t n room (λ z. Memᴰ z (parts e)) (λ z. z ≡ e)

-- ---- A tree after its parts

module _ {t t' : Table} {n room : ℕ} (x e : Expression) (inside : Within (parts x) (parts e)) where
  came_part : {n' : ℕ} → Came t n room (λ z. Memᴰ z (parts x)) t' n' → Came t n room (λ z. Memᴰ z (parts e)) t' n'
  came_part = came_for (λ z p. inr (inside z p))

  short_part : Short t n room (λ z. Memᴰ z (parts x)) t' → Short t n room (λ z. Memᴰ z (parts e)) t'
  short_part = short_for (λ z p. inr (inside z p))

takes_after : {t t' t'' : Table} {n n' n'' room : ℕ} {x e : Expression} {r : Result ℕ NoRoom} → Came t n room (λ z. Memᴰ z (parts e)) t' n' → x ≡ e
    → Interns t' n' room x r t'' n'' → Takes t n room e r t'' n''
takes_after {t' = t'} {t'' = t''} {n' = n'} {n'' = n''} {room = room} {e = e} {r = r} c q h =
    answered_then c (λ z p. Memᴰ.cast p (part_whole e)) (subst (λ y. Interns t' n' room y r t'' n'') q h)

full_for : {t t' : Table} {n n' room : ℕ} {e : Expression} (r : Result ℕ NoRoom) → IsErr r → Short t n room (λ z. Memᴰ z (parts e)) t'
    → Takes t n room e r t' n'
full_for (Ok i) q s = absurd (false≢true q)
full_for (Err x) q s = record { answer = s }

-- ---- By the children of the given row

module _ {g : Table} {j : ℕ} {w : Row} {named : Children} (k : Read g j w named) where
  pub takes_leaf : {t t' : Table} {n n' room : ℕ} {r : Result ℕ NoRoom} → named ≡ Nothing → Fitted t n room
      → Interns t n room (row_tree w (trees t n)) r t' n' → Takes t n room (tree_at g j) r t' n'
  unfolding tree_at
  takes_leaf {t} {n = n} q f h =
      takes_after (came_none (λ z. Memᴰ z (parts (tree_at g j))) f)
      (row_tree_cong (trees t n) (trees g j) (leaf_read k q 0) (λ i l. absurd (omega arith)) ∙ ap (λ v. row_tree v (trees g j)) k.is) h

  -- ---- A star over the child

  star_parts : {c : ℕ} → named ≡ One c → Within (parts (tree_at g c)) (parts (tree_at g j))
  star_parts {c} q = subst (λ e. Within (parts (tree_at g c)) (parts e)) (sym (star_read k q).1) (part_inner (tree_at g c))

  pub star_sound : {c x u : ℕ} → named ≡ One c → x < u → Sound u (entry w.kind x w.right)
  star_sound {x = x} q l = of_star x l (star_with k q x)

  module _ {t t₁ : Table} {n u room c : ℕ} (q : named ≡ One c) where
    pub takes_star : {t₂ : Table} {x v : ℕ} {r : Result ℕ NoRoom} → Took t n room (tree_at g c) x t₁ u
        → Interns t₁ u room (row_tree (entry w.kind x w.right) (trees t₁ u)) r t₂ v → Takes t n room (tree_at g j) r t₂ v
    takes_star {x = x} d h =
        takes_after (came_part (tree_at g c) (tree_at g j) (star_parts q) d.came)
        (ap (λ i. row_tree i (trees t₁ u)) (star_with k q x) ∙ star_tree x (trees t₁ u) ∙ ap star (trees_below t₁ u x d.there ∙ d.is)
        ∙ sym (star_read k q).1)
        h

    pub star_full : {x : NoRoom} {r : Result ℕ NoRoom} → Takes t n room (tree_at g c) (Err x) t₁ u → IsErr r → Takes t n room (tree_at g j) r t₁ u
    star_full {r = r} h e = full_for r e (short_part (tree_at g c) (tree_at g j) (star_parts q) h.answer)

  -- ---- A sign over both children

  left_parts : {c d : ℕ} → named ≡ Two c d → Within (parts (tree_at g c)) (parts (tree_at g j))
  left_parts {c} {d} q =
      let p = sign_read k q in
      subst (λ e. Within (parts (tree_at g c)) (parts e)) (sym p.4) (pair_left p.0 (tree_at g c) (tree_at g d))

  right_parts : {c d : ℕ} → named ≡ Two c d → Within (parts (tree_at g d)) (parts (tree_at g j))
  right_parts {c} {d} q =
      let p = sign_read k q in
      subst (λ e. Within (parts (tree_at g d)) (parts e)) (sym p.4) (pair_right p.0 (tree_at g c) (tree_at g d))

  module _ {t t₁ : Table} {n u room c d : ℕ} (q : named ≡ Two c d) where
    pub left_full : {x : NoRoom} {r : Result ℕ NoRoom} → Takes t n room (tree_at g c) (Err x) t₁ u → IsErr r → Takes t n room (tree_at g j) r t₁ u
    left_full {r = r} h e = full_for r e (short_part (tree_at g c) (tree_at g j) (left_parts q) h.answer)

    module _ {x : ℕ} (a : Took t n room (tree_at g c) x t₁ u) where
      from_left : Came t n room (λ z. Memᴰ z (parts (tree_at g j))) t₁ u
      from_left = came_part (tree_at g c) (tree_at g j) (left_parts q) a.came

      module _ {t₂ : Table} {v : ℕ} where
        pub right_full : {z : NoRoom} {r : Result ℕ NoRoom} → Takes t₁ u room (tree_at g d) (Err z) t₂ v → IsErr r
            → Takes t n room (tree_at g j) r t₂ v
        right_full {r = r} h e =
            full_for r e (short_then from_left (short_part (tree_at g d) (tree_at g j) (right_parts q) h.answer))

        -- The sign's row over what both children became.
        module _ {y : ℕ} (b : Took t₁ u room (tree_at g d) y t₂ v) where
          left_still : x < v
          left_still = lt_of_lt_of_le a.there b.came.grown.more

          signed : entry w.kind x y ≡ entry (kind_of_sign (sign_read k q).0) x y
          signed = ap (λ (i : ℕ). entry i x y) (sign_read k q).3

          pub pair_sound : Sound v (entry w.kind x y)
          pair_sound = of_sign (sign_read k q).0 x y left_still b.there signed

          -- However it was made.
          module _ {made : Row} (z : entry w.kind x y ≡ made) where
            row_is : made ≡ entry (kind_of_sign (sign_read k q).0) x y
            row_is = sym z ∙ signed

            pub takes_pair : {t₃ : Table} {n₃ : ℕ} {r : Result ℕ NoRoom} → Interns t₂ v room (row_tree made (trees t₂ v)) r t₃ n₃
                → Takes t n room (tree_at g j) r t₃ n₃
            takes_pair h =
                let p = sign_read k q in
                takes_after (came_then from_left (came_part (tree_at g d) (tree_at g j) (right_parts q) b.came))
                (ap (λ i. row_tree i (trees t₂ v)) row_is ∙ sign_tree p.0 x y (trees t₂ v)
                ∙ ap₂ (pair p.0) (trees_below t₂ v x left_still ∙ grown_tree b.came.grown a.there ∙ a.is)
                (trees_below t₂ v y b.there ∙ b.is)
                ∙ sym p.4)
                h
