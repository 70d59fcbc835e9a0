-- What a row of a table is, by 01's table of kinds, with its tree over the trees of its children's rows. Leans on `Sound` and `Trees`.
use Prim.Native.Nat.{ℕ, ◌<◌}
use mathlib.Core.Path.{◌≡◌, sym, ap, ap₂, ◌∙◌, subst}
use Rattle.theory.specs.Kind
use Rattle.theory.specs.Expression.{Expression, pair, Sign, ∅, ε, letter, star}
use Rattle.theory.specs.Table.{Table, row, entry, Sound, of_∅, of_ε, of_letter, of_sign, of_star, kind_of_sign, Meaning, ∅_kind, ε_kind, letter_kind, sign_kind, star_kind, unknown_kind, meaning, node, row_tree, trees, tree_at}
use Rattle.theory.proofs.Meaning.{one_meaning, kind_is, left_is, right_is}
use Rattle.theory.proofs.Pair.{Signless, pair_same, pair_signed}
use Rattle.theory.proofs.Sound.{sign_tree, star_tree}
use Rattle.theory.proofs.Trees.{trees_below}

pub data Rooted (t : Table) (i : ℕ) : Type 0 where
  ∅_row : row t i ≡ entry Kind.empty_language 0 0 → tree_at t i ≡ ∅ → Rooted t i
  ε_row : row t i ≡ entry Kind.empty_word 0 0 → tree_at t i ≡ ε → Rooted t i
  letter_row : (a : ℕ) → row t i ≡ entry Kind.letter a 0 → tree_at t i ≡ letter a → Rooted t i
  sign_row : (s : Sign) (l r : ℕ) → l < i → r < i → row t i ≡ entry (kind_of_sign s) l r → tree_at t i ≡ pair s (tree_at t l) (tree_at t r) → Rooted t i
  star_row : (l : ℕ) → l < i → row t i ≡ entry Kind.star l 0 → tree_at t i ≡ star (tree_at t l) → Rooted t i

module _ (t : Table) (i : ℕ) where
  pub tree_ε : row t i ≡ entry Kind.empty_word 0 0 → tree_at t i ≡ ε
  unfolding tree_at row_tree meaning node
  tree_ε e = ap (λ w. row_tree w (trees t i)) e

  pub tree_sign : (s : Sign) {l r : ℕ} → l < i → r < i → row t i ≡ entry (kind_of_sign s) l r → tree_at t i ≡ pair s (tree_at t l) (tree_at t r)
  unfolding tree_at
  tree_sign s {l} {r} hl hr e =
      ap (λ w. row_tree w (trees t i)) e ∙ sign_tree s l r (trees t i) ∙ ap₂ (pair s) (trees_below t i l hl) (trees_below t i r hr)

  pub tree_star : {l : ℕ} → l < i → row t i ≡ entry Kind.star l 0 → tree_at t i ≡ star (tree_at t l)
  unfolding tree_at
  tree_star {l} hl e = ap (λ w. row_tree w (trees t i)) e ∙ star_tree l (trees t i) ∙ ap star (trees_below t i l hl)

  pub rooted : Sound i (row t i) → Rooted t i
  unfolding tree_at row_tree meaning node
  rooted (of_∅ e) = ∅_row e (ap (λ w. row_tree w (trees t i)) e)
  rooted (of_ε e) = ε_row e (tree_ε e)
  rooted (of_letter a low high e) = letter_row a e (ap (λ w. row_tree w (trees t i)) e)
  rooted (of_sign s l r hl hr e) = sign_row s l r hl hr e (tree_sign s hl hr e)
  rooted (of_star l hl e) = star_row l hl e (tree_star hl e)

-- ---- A row told by its kind or by its tree

-- The meanings that no letter has, and those that no sign has.
abbrev NotLetter : Meaning → Type 0
NotLetter ∅_kind = Unit {0}
NotLetter ε_kind = Unit {0}
NotLetter letter_kind = ⊥
NotLetter (sign_kind s) = Unit {0}
NotLetter star_kind = Unit {0}
NotLetter unknown_kind = Unit {0}

abbrev NotSign : Meaning → Type 0
NotSign ∅_kind = Unit {0}
NotSign ε_kind = Unit {0}
NotSign letter_kind = Unit {0}
NotSign (sign_kind s) = ⊥
NotSign star_kind = Unit {0}
NotSign unknown_kind = Unit {0}

module _ {t : Table} {i : ℕ} where
  pub letter_rooted : Rooted t i → (row t i).kind ≡ Kind.letter → tree_at t i ≡ letter (row t i).left
  letter_rooted (∅_row e tr) k = absurd (subst NotLetter (one_meaning ∅_kind letter_kind _ (kind_is e) k) tt)
  letter_rooted (ε_row e tr) k = absurd (subst NotLetter (one_meaning ε_kind letter_kind _ (kind_is e) k) tt)
  letter_rooted (letter_row a e tr) k = tr ∙ ap letter (sym (left_is e))
  letter_rooted (sign_row s l r hl hr e tr) k = absurd (subst NotLetter (one_meaning (sign_kind s) letter_kind _ (kind_is e) k) tt)
  letter_rooted (star_row l hl e tr) k = absurd (subst NotLetter (one_meaning star_kind letter_kind _ (kind_is e) k) tt)

  pub sign_rooted : (s : Sign) → Rooted t i → (row t i).kind ≡ kind_of_sign s
      → ((row t i).left < i) × ((row t i).right < i) × (tree_at t i ≡ pair s (tree_at t (row t i).left) (tree_at t (row t i).right))
  sign_rooted s (∅_row e tr) k = absurd (subst NotSign (one_meaning ∅_kind (sign_kind s) _ (kind_is e) k) tt)
  sign_rooted s (ε_row e tr) k = absurd (subst NotSign (one_meaning ε_kind (sign_kind s) _ (kind_is e) k) tt)
  sign_rooted s (letter_row a e tr) k = absurd (subst NotSign (one_meaning letter_kind (sign_kind s) _ (kind_is e) k) tt)
  sign_rooted s (sign_row u l r hl hr e tr) k =
      let same_sign : u ≡ s = cc (one_meaning (sign_kind u) (sign_kind s) _ (kind_is e) k) in (
        subst (λ (j : ℕ). j < i) (sym (left_is e)) hl,
        subst (λ (j : ℕ). j < i) (sym (right_is e)) hr,
        tr ∙ ap (λ v. pair v (tree_at t l) (tree_at t r)) same_sign
            ∙ ap₂ (λ (x y : ℕ). pair s (tree_at t x) (tree_at t y)) (sym (left_is e)) (sym (right_is e)),
      )
  sign_rooted s (star_row l hl e tr) k = absurd (subst NotSign (one_meaning star_kind (sign_kind s) _ (kind_is e) k) tt)

  -- A row whose tree has a sign at its root has that sign's kind.
  pub pair_rooted : (s : Sign) (x y : Expression) → Rooted t i → tree_at t i ≡ pair s x y → (row t i).kind ≡ kind_of_sign s
  pair_rooted s x y (∅_row e tr) q = absurd (pair_signed s x y (subst Signless (sym tr ∙ q) tt))
  pair_rooted s x y (ε_row e tr) q = absurd (pair_signed s x y (subst Signless (sym tr ∙ q) tt))
  pair_rooted s x y (letter_row a e tr) q = absurd (pair_signed s x y (subst Signless (sym tr ∙ q) tt))
  pair_rooted s x y (sign_row u l r hl hr e tr) q = kind_is e ∙ ap kind_of_sign (pair_same u s (tree_at t l) (tree_at t r) x y (sym tr ∙ q)).0
  pair_rooted s x y (star_row l hl e tr) q = absurd (pair_signed s x y (subst Signless (sym tr ∙ q) tt))
