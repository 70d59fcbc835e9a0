-- A member joined with a side's other tree, as a row: one of the two rows, or the sign's row over both.
use Prim.Native.Nat.{ℕ, ◌<◌}
use mathlib.Core.Path.{◌≡◌, refl, sym, ap, ap₂, ◌∙◌, subst}
use Rattle.theory.specs.Expression.{pair}
use Rattle.theory.specs.Table.{Table, Row, entry, kind_of_sign, tree_at, trees, row_tree, Sound, of_sign}
use Rattle.theory.proofs.Sound.{sign_tree}
use Rattle.theory.proofs.Trees.{trees_below}
use Rattle.std.specs.Prelude.{Result, Ok}
use Rattle.derive.specs.declared.rows.NoRoom.{NoRoom}
use Rattle.derive.specs.declared.sides.Join.{Join}
use Rattle.derive.specs.declared.sides.Join.TheVariants.{Followed, Shuffled, Shuffles}
use Rattle.derive.specs.Rows.{Fitted, Interns}
use Rattle.derive.specs.Sides.{join_sign, arranged, beside}
use Rattle.derive.proofs.Growing.{not_ε}
use Rattle.derive.proofs.Interning.{intern_there}
use Rattle.derive.proofs.Joining.{paired, beside_literal, beside_ε, beside_pair}

-- The row of a member's row joined with the other row.
abbrev joined_row : Join → ℕ → ℕ → Row
joined_row j other member = arranged j (entry (kind_of_sign (join_sign j))) member other

module _ {t : Table} {n room other member : ℕ} (f : Fitted t n room) (there : (other < n) × (member < n)) (j : Join) where
  pub lift_literal : other ≡ 0 → Interns t n room (beside j (tree_at t other) (tree_at t member)) (Ok member) t n
  lift_literal e =
      intern_there f there.1 (sym (ap (λ o. beside j o (tree_at t member)) (ap (tree_at t) e ∙ f.rows.literal) ∙ beside_literal j (tree_at t member)))

  pub lift_empty : member ≡ 0 → Interns t n room (beside j (tree_at t other) (tree_at t member)) (Ok other) t n
  lift_empty e =
      intern_there f there.0 (sym (ap (beside j (tree_at t other)) (ap (tree_at t) e ∙ f.rows.literal) ∙ beside_ε j (tree_at t other)))

  -- The row is sound, and its tree is the join's.
  joined_sound : (i : Join) → Sound n (joined_row i other member)
  joined_sound Followed = of_sign (join_sign Followed) member other there.1 there.0 refl
  joined_sound Shuffled = of_sign (join_sign Shuffled) member other there.1 there.0 refl
  joined_sound Shuffles = of_sign (join_sign Shuffles) other member there.0 there.1 refl

  joined_tree : (i : Join) → row_tree (joined_row i other member) (trees t n) ≡ paired i (tree_at t other) (tree_at t member)
  joined_tree Followed =
      sign_tree (join_sign Followed) member other (trees t n)
      ∙ ap₂ (pair (join_sign Followed)) (trees_below t n member there.1) (trees_below t n other there.0)
  joined_tree Shuffled =
      sign_tree (join_sign Shuffled) member other (trees t n)
      ∙ ap₂ (pair (join_sign Shuffled)) (trees_below t n member there.1) (trees_below t n other there.0)
  joined_tree Shuffles =
      sign_tree (join_sign Shuffles) other member (trees t n)
      ∙ ap₂ (pair (join_sign Shuffles)) (trees_below t n other there.0) (trees_below t n member there.1)

  module _ {w : Row} (is : w ≡ joined_row j other member) where
    pub lift_sound : Sound n w
    lift_sound = subst (Sound n) (sym is) (joined_sound j)

    pub lift_pair : {t' : Table} {n' : ℕ} {r : Result ℕ NoRoom} → (other ≡ 0 → ⊥) → (member ≡ 0 → ⊥)
        → Interns t n room (row_tree w (trees t n)) r t' n' → Interns t n room (beside j (tree_at t other) (tree_at t member)) r t' n'
    lift_pair {t'} {n'} {r} d c h =
        subst (λ e. Interns t n room e r t' n')
        (ap (λ v. row_tree v (trees t n)) is ∙ joined_tree j
        ∙ sym (beside_pair j (tree_at t other) (tree_at t member) (not_ε f.rows there.0 d) (not_ε f.rows there.1 c)))
        h
