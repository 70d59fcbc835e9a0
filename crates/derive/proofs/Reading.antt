-- A row as the code has read it, with the children that it names: what the row is and its tree over theirs. Then
-- the answer for the empty word, by the row's kind.
use Prim.Native.Nat.{ℕ, suc, ◌<◌}
use native.Mathlib.Nat.{le_refl}
use mathlib.Core.Path.{◌≡◌, refl, sym, ap, ap₂, ◌∙◌, subst}
use mathlib.Core.Bool.{Bool, true, false, ◌&&◌, ◌||◌}
use Rattle.theory.specs.Kind as paper
use Rattle.theory.specs.Expression.{pair, Sign, binary, star}
use Rattle.theory.specs.Derivative.{empty_word}
use Rattle.theory.specs.Table.{Table, Row, row, entry, Sound, Meaning, ∅_kind, ε_kind, letter_kind, star_kind, unknown_kind, meaning, node, row_tree, trees, tree_at, kind_of_sign, children, row_children, sign_kind}
use Rattle.theory.specs.Meant.{as_sign, kind_meaning}
use Rattle.theory.specs.declared.kind.Sign.{Sign as CodeSign}
use Rattle.theory.specs.declared.kind.Sign.TheVariants.{Union, Concatenation, Shuffle}
use Rattle.theory.specs.declared.kind.Kind.{Kind}
use Rattle.theory.specs.declared.kind.Kind.TheVariants.{EmptyLanguage, EmptyWord, Letter, Sign as Signed, Star}
use Rattle.theory.proofs.Meaning.{Numbered, numbered, kind_is}
use Rattle.theory.proofs.Pair.{pair_empty_word}
use Rattle.theory.proofs.Sound.{Parent, parent, of_none, of_one, of_two}
use Rattle.theory.proofs.Rooted.{rooted, sign_rooted, tree_sign, tree_star}
use Rattle.columns.specs.Row.{as_row, as_children}
use Rattle.columns.specs.declared.row.Row.{Row as Taken}
use Rattle.columns.specs.declared.row.Children.{Children}
use Rattle.columns.specs.declared.row.Children.TheVariants.{Nothing, One, Two}
use Rattle.derive.specs.Rows.{SoundTo}
use Rattle.derive.proofs.Growing.{sound_to_less}

-- The children told are those of the row.
pub parent_told : {i : ℕ} {w : Row} {r r' : Children} → Sound i w → as_children r ≡ row_children w → r ≡ r' → Parent i w (as_children r')
parent_told {i} {w} s n e = subst (Parent i w) (sym n ∙ ap as_children e) (parent s)

-- w is row i of t as the code has read it, and r are its children.
pub record Read (t : Table) (i : ℕ) (w : Row) (r : Children) : Type 0 where
  pub sound : SoundTo t i
  pub is : w ≡ row t i
  pub named : as_children r ≡ row_children w

-- As the code reads it, by the kind that it tells.
module _ {t : Table} {i : ℕ} (w : Taken) (s : SoundTo t i) (e : as_row w ≡ row t i) where
  reads : (r : Children) (m : Meaning) → meaning w.kind ≡ m → as_children r ≡ children m w.left w.right → Read t i (as_row w) r
  unfolding row_children
  reads r m h n = record { sound = s; is = e; named = n ∙ ap (λ z. children z w.left w.right) (sym h) }

  pub reads_unknown : meaning w.kind ≡ unknown_kind → Read t i (as_row w) Nothing
  unfolding children
  reads_unknown h = reads Nothing unknown_kind h refl

  module _ {k : Kind} (h : meaning w.kind ≡ kind_meaning k) where
    pub reads_star : k ≡ Star → Read t i (as_row w) (One w.left)
    unfolding children
    reads_star q = reads (One w.left) star_kind (h ∙ ap kind_meaning q) refl

    pub reads_sign : {v : CodeSign} → k ≡ Signed v → Read t i (as_row w) (Two w.left w.right)
    unfolding children
    reads_sign {v} q = reads (Two w.left w.right) (sign_kind (as_sign v)) (h ∙ ap kind_meaning q) refl

    -- A sign's row over other children, as `pair` makes it.
    pub sign_with : {v : CodeSign} → k ≡ Signed v → {x y : ℕ} {u : Row} → u ≡ entry (kind_of_sign (as_sign v)) x y → entry w.kind x y ≡ u
    sign_with q {x} {y} z =
        ap (λ n. entry n x y) (subst (λ m. Numbered m w.kind) (h ∙ ap kind_meaning q) (numbered w.kind)) ∙ sym z

    pub reads_leaf : ((v : CodeSign) → k ≡ Signed v → ⊥) → (k ≡ Star → ⊥) → Read t i (as_row w) Nothing
    unfolding children
    reads_leaf a b = go k refl
      where
        go : (j : Kind) → k ≡ j → Read t i (as_row w) Nothing
        go EmptyLanguage q = reads Nothing ∅_kind (h ∙ ap kind_meaning q) refl
        go EmptyWord q = reads Nothing ε_kind (h ∙ ap kind_meaning q) refl
        go Letter q = reads Nothing letter_kind (h ∙ ap kind_meaning q) refl
        go (Signed v) q = absurd (a v q)
        go Star q = absurd (b q)

module _ {t : Table} {i : ℕ} {w : Row} {r : Children} (k : Read t i w r) where
  row_sound : Sound i (row t i)
  row_sound = k.sound.sound i (le_refl (suc i))

  parent_read : {r' : Children} → r ≡ r' → Parent i w (as_children r')
  parent_read e = parent_told (subst (Sound i) (sym k.is) row_sound) k.named e

  pub leaf_read : r ≡ Nothing → (j : ℕ) → Sound j w
  leaf_read e = of_none (parent_read e)

  -- A star over row c.
  pub star_read : {c : ℕ} → r ≡ One c → (c < i) × (tree_at t i ≡ star (tree_at t c))
  star_read e = let p = of_one (parent_read e) in (p.0, tree_star t i p.0 (sym k.is ∙ p.1))

  -- Its row over another child.
  pub star_with : {c : ℕ} → r ≡ One c → (x : ℕ) → entry w.kind x w.right ≡ entry paper.star x 0
  star_with e x = let p = of_one (parent_read e) in ap (λ (v : Row). entry v.kind x v.right) p.1

  -- A sign over rows c and d.
  pub sign_read : {c d : ℕ} → r ≡ Two c d
      → (s : Sign) × (c < i) × (d < i) × (w.kind ≡ kind_of_sign s) × (tree_at t i ≡ pair s (tree_at t c) (tree_at t d))
  sign_read e =
      let p = of_two (parent_read e) in
      (p.0, p.1, p.2, kind_is p.3, tree_sign t i p.0 p.1 p.2 (sym k.is ∙ p.3))

-- ---- A row by its kind

-- w is row i as the code has read it.
module _ (t : Table) (i : ℕ) {w : Row} (e : w ≡ row t i) where
  word_as : (m : Meaning) → meaning w.kind ≡ m → empty_word (tree_at t i) ≡ empty_word (node m w.left w.right (trees t i))
  unfolding tree_at row_tree
  word_as m h =
      ap (λ (v : Row). empty_word (node (meaning v.kind) v.left v.right (trees t i))) (sym e)
      ∙ ap (λ n. empty_word (node n w.left w.right (trees t i))) h

  pub word_unknown : meaning w.kind ≡ unknown_kind → false ≡ empty_word (tree_at t i)
  unfolding node empty_word
  word_unknown h = sym (word_as unknown_kind h)

  module _ {k : Kind} (h : meaning w.kind ≡ kind_meaning k) where
    pub word_ε : k ≡ EmptyWord → true ≡ empty_word (tree_at t i)
    unfolding node empty_word
    word_ε q = sym (word_as ε_kind (h ∙ ap kind_meaning q))

    pub word_star : k ≡ Star → true ≡ empty_word (tree_at t i)
    unfolding node empty_word
    word_star q = sym (word_as star_kind (h ∙ ap kind_meaning q))

    pub word_other : (k ≡ EmptyWord → ⊥) → ((s : CodeSign) → k ≡ Signed s → ⊥) → (k ≡ Star → ⊥) → false ≡ empty_word (tree_at t i)
    unfolding node empty_word
    word_other a b c = go k refl
      where
        go : (j : Kind) → k ≡ j → false ≡ empty_word (tree_at t i)
        go EmptyLanguage q = sym (word_as ∅_kind (h ∙ ap kind_meaning q))
        go EmptyWord q = absurd (a q)
        go Letter q = sym (word_as letter_kind (h ∙ ap kind_meaning q))
        go (Signed s) q = absurd (b s q)
        go Star q = absurd (c q)

    -- A sign's row.
    module _ {s : CodeSign} (q : k ≡ Signed s) (d : SoundTo t i) where
      sign_kind_is : w.kind ≡ kind_of_sign (as_sign s)
      sign_kind_is = subst (λ m. Numbered m w.kind) (h ∙ ap kind_meaning q) (numbered w.kind)

      by_sign : (w.left < i) × (w.right < i) × (tree_at t i ≡ pair (as_sign s) (tree_at t w.left) (tree_at t w.right))
      by_sign =
          subst (λ (v : Row). (v.left < i) × (v.right < i) × (tree_at t i ≡ pair (as_sign s) (tree_at t v.left) (tree_at t v.right))) (sym e)
          (sign_rooted (as_sign s) (rooted t i (d.sound i (le_refl (suc i)))) (sym (ap (λ (v : Row). v.kind) e) ∙ sign_kind_is))

      -- Its children stand before it.
      pub left_before : (w.left < i) × SoundTo t w.left
      left_before = (by_sign.0, sound_to_less d by_sign.0)

      pub right_before : (w.right < i) × SoundTo t w.right
      right_before = (by_sign.1, sound_to_less d by_sign.1)

      word_sign : empty_word (tree_at t i) ≡ empty_word (binary (as_sign s) (tree_at t w.left) (tree_at t w.right))
      word_sign = ap empty_word by_sign.2 ∙ pair_empty_word (as_sign s) (tree_at t w.left) (tree_at t w.right)

      module _ {a b : Bool} (ea : a ≡ empty_word (tree_at t w.left)) (eb : b ≡ empty_word (tree_at t w.right)) where
        pub word_union : s ≡ Union → (a || b) ≡ empty_word (tree_at t i)
        unfolding empty_word
        word_union z =
            ap₂ ◌||◌ ea eb ∙ sym (ap (λ v. empty_word (binary (as_sign v) (tree_at t w.left) (tree_at t w.right))) z) ∙ sym word_sign

        pub word_both : (s ≡ Union → ⊥) → (a && b) ≡ empty_word (tree_at t i)
        unfolding empty_word
        word_both z = ap₂ ◌&&◌ ea eb ∙ go s refl ∙ sym word_sign
          where
            go : (v : CodeSign) → s ≡ v
                → (empty_word (tree_at t w.left) && empty_word (tree_at t w.right))
                ≡ empty_word (binary (as_sign v) (tree_at t w.left) (tree_at t w.right))
            go Union p = absurd (z p)
            go Concatenation p = refl
            go Shuffle p = refl
