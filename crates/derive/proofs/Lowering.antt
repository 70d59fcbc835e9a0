-- The join of a member with a side's other tree undone, on rows: the member, or that no member's join the row's tree is.
use Prim.Native.Nat.{ℕ, ◌<◌}
use native.Mathlib.Nat.{le_trans, le_of_lt}
use mathlib.Core.Path.{◌≡◌, refl, sym, ap, ◌∙◌}
use mathlib.Core.Bool.{Bool, true, false, not, ◌&&◌}
use lib.Dec.{eqb}
use borrow.Author.Tests.{eqb-true, eqb-false}
use Rattle.theory.specs.Expression.{Expression, same, ε}
use Rattle.theory.specs.Table.{Table, Row, row, tree_at, kind_of_sign}
use Rattle.theory.proofs.Rooted.{rooted, sign_rooted, pair_rooted}
use Rattle.derive.specs.declared.sides.Join.{Join}
use Rattle.derive.specs.declared.sides.Join.TheVariants.{Followed, Shuffled, Shuffles}
use Rattle.std.specs.Prelude.{Option, Some, None}
use Rattle.derive.specs.Rows.{Rows}
use Rattle.derive.specs.Sides.{join_sign, arranged, beside, choose, parted, lowered}
use Rattle.derive.proofs.Growing.{rows_differ, not_ε}
use Rattle.derive.proofs.Joining.{paired, paired_same, beside_literal, beside_ε, beside_pair}

-- What undoing the join of row p's tree with row other's gives: the member, or that no member's join it is.
abbrev pub Lowers : Table → ℕ → ℕ → Join → ℕ → Option ℕ → Type 0
Lowers t n other j p (Some m) = (m < n) × (beside j (tree_at t other) (tree_at t m) ≡ tree_at t p)
Lowers t n other j p None = (x : Expression) → beside j (tree_at t other) x ≡ tree_at t p → ⊥

-- The child of a row that stands for the member, and the one that stands for the other tree.
abbrev member_of : Join → Row → ℕ
member_of j w = arranged j (λ x y. x) w.left w.right

abbrev other_of : Join → Row → ℕ
other_of j w = arranged j (λ x y. y) w.left w.right

-- ---- A row whose tree is a pair

module _ {t : Table} {n p : ℕ} (h : Rows t n) (lp : p < n) where
  -- Of the sign's kind.
  record Pairs (j : Join) : Type 0 where
    member_in : member_of j (row t p) < n
    other_in : other_of j (row t p) < n
    is : tree_at t p ≡ paired j (tree_at t (other_of j (row t p))) (tree_at t (member_of j (row t p)))

  pairs : (j : Join) → (row t p).kind ≡ kind_of_sign (join_sign j) → Pairs j
  pairs Followed e =
      let r = sign_rooted (join_sign Followed) (rooted t p (h.sound p lp)) e in
      record { member_in = le_trans r.0 (le_of_lt lp); other_in = le_trans r.1 (le_of_lt lp); is = r.2 }
  pairs Shuffled e =
      let r = sign_rooted (join_sign Shuffled) (rooted t p (h.sound p lp)) e in
      record { member_in = le_trans r.0 (le_of_lt lp); other_in = le_trans r.1 (le_of_lt lp); is = r.2 }
  pairs Shuffles e =
      let r = sign_rooted (join_sign Shuffles) (rooted t p (h.sound p lp)) e in
      record { member_in = le_trans r.1 (le_of_lt lp); other_in = le_trans r.0 (le_of_lt lp); is = r.2 }

  -- Of a pair's tree.
  paired_kind : (j : Join) (o x : Expression) → paired j o x ≡ tree_at t p → (row t p).kind ≡ kind_of_sign (join_sign j)
  paired_kind Followed o x e = pair_rooted (join_sign Followed) x o (rooted t p (h.sound p lp)) (sym e)
  paired_kind Shuffled o x e = pair_rooted (join_sign Shuffled) x o (rooted t p (h.sound p lp)) (sym e)
  paired_kind Shuffles o x e = pair_rooted (join_sign Shuffles) o x (rooted t p (h.sound p lp)) (sym e)

-- ---- The join undone

module _ {t : Table} {n p other : ℕ} (h : Rows t n) (lp : p < n) (lo : other < n) (j : Join) where
  abbrev m : ℕ
  m = member_of j (row t p)

  abbrev o : ℕ
  o = other_of j (row t p)

  abbrev k : ℕ
  k = kind_of_sign (join_sign j)

  outside : (other ≡ 0 → ⊥) → (p ≡ other → ⊥) → ((row t p).kind ≡ k → o ≡ other → (m ≡ 0 → ⊥) → ⊥) → Lowers t n other j p None
  outside d d' apart x e = go (same x ε)
    where
      go : Dec (x ≡ ε) → ⊥
      go (yes q) = d' (rows_differ h lp lo (sym e ∙ ap (beside j (tree_at t other)) q ∙ beside_ε j (tree_at t other)))
      go (no c) =
          let paired_is = sym (beside_pair j (tree_at t other) x (not_ε h lo d) c) ∙ e in
          let kind_is = paired_kind h lp j (tree_at t other) x paired_is in
          let r = pairs h lp j kind_is in
          let both = paired_same j (tree_at t other) x (tree_at t o) (tree_at t m) (paired_is ∙ r.is) in
          apart kind_is (rows_differ h r.other_in lo (sym both.0)) (λ z. c (both.1 ∙ ap (tree_at t) z ∙ h.literal))

  inside : (other ≡ 0 → ⊥) → (row t p).kind ≡ k → o ≡ other → (m ≡ 0 → ⊥) → Lowers t n other j p (Some m)
  inside d e q c =
      let r = pairs h lp j e in (
        r.member_in,
        beside_pair j (tree_at t other) (tree_at t m) (not_ε h lo d) (not_ε h r.member_in c)
            ∙ ap (λ (i : ℕ). paired j (tree_at t i) (tree_at t m)) (sym q) ∙ sym r.is,
      )

  parts_well : (other ≡ 0 → ⊥) → (p ≡ other → ⊥) → Lowers t n other j p (parted (row t p) j other)
  unfolding parted
  parts_well d d' = go (eqb (row t p).kind k) refl (eqb o other) refl (eqb m 0) refl
    where
      go : (b : Bool) → eqb (row t p).kind k ≡ b → (c : Bool) → eqb o other ≡ c → (z : Bool) → eqb m 0 ≡ z
          → Lowers t n other j p (choose (b && c && not z) (Some m) None)
      go false e c f z g = outside d d' (λ x y z. eqb-false _ _ e x)
      go true e false f z g = outside d d' (λ x y z. eqb-false _ _ f y)
      go true e true f true g = outside d d' (λ x y z. z (eqb-true _ _ g))
      go true e true f false g = inside d (eqb-true _ _ e) (eqb-true _ _ f) (eqb-false _ _ g)

  pub lowers : Lowers t n other j p (lowered t other j p)
  unfolding lowered
  lowers = at_literal (eqb other 0) refl
    where
      at_other : (other ≡ 0 → ⊥) → (b : Bool) → eqb p other ≡ b → Lowers t n other j p (choose b (Some 0) (parted (row t p) j other))
      at_other d true e =
          (h.nonempty, ap (beside j (tree_at t other)) h.literal ∙ beside_ε j (tree_at t other) ∙ ap (tree_at t) (sym (eqb-true _ _ e)))
      at_other d false e = parts_well d (eqb-false _ _ e)

      at_literal : (b : Bool) → eqb other 0 ≡ b
          → Lowers t n other j p (choose b (Some p) (choose (eqb p other) (Some 0) (parted (row t p) j other)))
      at_literal true e = (lp, ap (λ z. beside j z (tree_at t p)) (ap (tree_at t) (eqb-true _ _ e) ∙ h.literal) ∙ beside_literal j (tree_at t p))
      at_literal false e = at_other (eqb-false _ _ e) (eqb p other) refl
