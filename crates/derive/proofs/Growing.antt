-- Laws of the expression columns on the way: the tree of a row, that different rows have different trees, rows that come after, and one row
-- more.
use Prim.Native.Nat.{ℕ, suc, ◌+◌, ◌<◌}
use native.Mathlib.Decide.{ℕ_discrete}
use native.Mathlib.Nat.{le_refl, le_trans, lt_of_lt_of_le, le_of_eq}
use native.Mathlib.Numerals.{add-one}
use native.Mathlib.Omega.{arith}
use mathlib.Core.Path.{◌≡◌, refl, sym, ap, ◌∙◌, subst}
use mathlib.Core.Logic.{⊎_elim}
use mathlib.Core.List.Memᴰ
use mathlib.Core.List.{List, [], ◌∷◌, ◌++◌, Memᴰ}
use lib.ListN.{length, length-set}
use lib.Seq.{get_or-set_same, get_or-set_other}
use Rattle.theory.specs.Expression.{Expression, same, ∅, ε}
use Rattle.theory.specs.Distinct.{NoRepeats, Within, place}
use Rattle.theory.specs.Table.{Table, Row, row, Sound, trees, tree_at, row_tree}
use Rattle.theory.proofs.Distinct.{place_of}
use Rattle.theory.proofs.Trees.{trees_length, trees_below, trees_kept, tree_kept, trees_of, to_trees}
use Rattle.theory.proofs.Sound.{row_told, row_tree_cong}
use Rattle.columns.specs.Table.{with_row}
use Rattle.derive.specs.Rows.{Rows, SoundTo, Grown}

-- ---- A row and its tree

pub rows_sound_to : {t : Table} {n i : ℕ} → Rows t n → i < n → SoundTo t i
rows_sound_to h l =
    let within = h.within in
    let left = h.left_length in
    let right = h.right_length in
    record { in_kind = omega arith; in_left = omega arith; in_right = omega arith; sound = λ j m. h.sound j (omega arith) }

pub sound_to_less : {t : Table} {i j : ℕ} → SoundTo t i → j < i → SoundTo t j
sound_to_less s l =
    record {
      in_kind = let h = s.in_kind in omega arith;
      in_left = let h = s.in_left in omega arith;
      in_right = let h = s.in_right in omega arith;
      sound = λ k m. s.sound k (omega arith);
    }

pub rows_tree : {t : Table} {n i : ℕ} → Rows t n → i < n → tree_at t i ≡ row_tree (row t i) (trees t n)
unfolding tree_at
rows_tree {t} {n} {i} h l =
    row_tree_cong (trees t i) (trees t n) (h.sound i l)
    (λ k m. trees_below t i k m ∙ sym (trees_below t n k (omega arith)))

place_in : {t : Table} {n i : ℕ} → Rows t n → i < n → place same (tree_at t i) (trees t n) ≡ i
place_in {t} {n} {i} h l =
    ap (λ e. place same e (trees t n)) (sym (trees_below t n i l))
    ∙ place_of same (trees t n) i ∅ h.once (subst (λ (k : ℕ). i < k) (sym (trees_length t n)) l)

-- Different rows have different trees.
pub rows_differ : {t : Table} {n i j : ℕ} → Rows t n → i < n → j < n → tree_at t i ≡ tree_at t j → i ≡ j
rows_differ {t} {n} h li lj e = sym (place_in h li) ∙ ap (λ x. place same x (trees t n)) e ∙ place_in h lj

-- A row other than row 0 is not the literal empty word.
pub not_ε : {t : Table} {n i : ℕ} → Rows t n → i < n → (i ≡ 0 → ⊥) → tree_at t i ≡ ε → ⊥
not_ε h l d e = d (rows_differ h l h.nonempty (e ∙ sym h.literal))

-- A row that has the tree of w is w.
pub row_found : {t : Table} {n i : ℕ} {w : Row} → Rows t n → Sound n w → i < n → tree_at t i ≡ row_tree w (trees t n) → row t i ≡ w
row_found {t} {n} {i} {w} h s l e =
    row_told (trees t n) h.once (le_trans (omega arith) (le_of_eq (sym (trees_length t n)))) (le_of_eq (sym (trees_length t n))) (h.sound i l) s
    (sym (rows_tree h l) ∙ e)

-- ---- Rows that come after

pub grown_none : {t : Table} {n : ℕ} → Rows t n → Grown t n t n
grown_none h = record { rows = h; more = le_refl _; kept = λ i l. refl }

pub grown_trans : {t t' t'' : Table} {n n' n'' : ℕ} → Grown t n t' n' → Grown t' n' t'' n'' → Grown t n t'' n''
grown_trans g h =
    record {
      rows = h.rows;
      more = le_trans g.more h.more;
      kept = λ i l. h.kept i (lt_of_lt_of_le l g.more) ∙ g.kept i l;
    }

pub grown_tree : {t t' : Table} {n n' i : ℕ} → Grown t n t' n' → i < n → tree_at t' i ≡ tree_at t i
grown_tree {t} {t'} {i = i} g l = tree_kept t t' i (λ j m. g.kept j (omega arith))

pub grown_within : {t t' : Table} {n n' : ℕ} → Grown t n t' n' → Within (trees t n) (trees t' n')
grown_within {t} {t'} {n} {n'} g z m =
    let r = trees_of t n m in
    Memᴰ.cast (r.2 ∙ sym (grown_tree g r.1)) (to_trees t' n' r.0 (lt_of_lt_of_le r.1 g.more))

-- ---- One row more

no_repeats_more : (xs : List Expression) (y : Expression) → NoRepeats xs → (Memᴰ y xs → ⊥) → NoRepeats (xs ++ (y ∷ []))
no_repeats_more [] y once new = (Memᴰ.not-nil, tt)
no_repeats_more (x ∷ xs) y once new = (
  λ m. ⊎_elim once.0 (λ k. new (Memᴰ.head (sym (Memᴰ.eq_of_singleton k)))) (Memᴰ.append_cases xs m),
  no_repeats_more xs y once.1 (λ m. new (Memᴰ.tail m)),
)

module _ (t : Table) (n : ℕ) (w : Row) where
  row_away : (i : ℕ) → (i ≡ n → ⊥) → row (with_row t n w) i ≡ row t i
  row_away i d =
      rw (get_or-set_other t.kind n i w.kind 0 d, get_or-set_other t.left n i w.left 0 d, get_or-set_other t.right n i w.right 0 d)

  row_here : n < length t.kind → n < length t.left → n < length t.right → row (with_row t n w) n ≡ w
  row_here a b c = rw (get_or-set_same t.kind n w.kind 0 a, get_or-set_same t.left n w.left 0 b, get_or-set_same t.right n w.right 0 c)

  module _ (h : Rows t n) (space : n < length t.kind) (s : Sound n w) (new : Memᴰ (row_tree w (trees t n)) (trees t n) → ⊥) where
    here : row (with_row t n w) n ≡ w
    here = row_here space (subst (λ (m : ℕ). n < m) (sym h.left_length) space) (subst (λ (m : ℕ). n < m) (sym h.right_length) space)

    below : (i : ℕ) → i < n → row (with_row t n w) i ≡ row t i
    below i m = row_away i (λ e. omega arith)

    same_trees : trees (with_row t n w) n ≡ trees t n
    same_trees = trees_kept t (with_row t n w) n below

    pub new_tree : tree_at (with_row t n w) n ≡ row_tree w (trees t n)
    unfolding tree_at
    new_tree = ap (λ v. row_tree v (trees (with_row t n w) n)) here ∙ ap (row_tree w) same_trees

    more_trees : trees (with_row t n w) (suc n) ≡ trees t n ++ (row_tree w (trees t n) ∷ [])
    unfolding trees
    more_trees = ap (λ ts. ts ++ (row_tree (row (with_row t n w) n) ts ∷ [])) same_trees ∙ ap (λ v. trees t n ++ (row_tree v (trees t n) ∷ [])) here

    sound_more : (i : ℕ) → i < n + 1 → Sound i (row (with_row t n w) i)
    sound_more i m = go (ℕ_discrete i n)
      where
        go : Dec (i ≡ n) → Sound i (row (with_row t n w) i)
        go (yes e) = subst (λ (j : ℕ). Sound j (row (with_row t n w) j)) (sym e) (subst (Sound n) (sym here) s)
        go (no d) = subst (Sound i) (sym (row_away i d)) (h.sound i (omega arith))

    pub one_more : Grown t n (with_row t n w) (n + 1)
    one_more =
        record {
          rows =
              record {
                left_length = length-set t.left n w.left ∙ h.left_length ∙ sym (length-set t.kind n w.kind);
                right_length = length-set t.right n w.right ∙ h.right_length ∙ sym (length-set t.kind n w.kind);
                within = simp length-set (omega arith);
                sound = sound_more;
                once = subst NoRepeats (sym (ap (trees (with_row t n w)) (add-one n) ∙ more_trees)) (no_repeats_more (trees t n) _ h.once new);
                nonempty = omega arith;
                literal = tree_kept t (with_row t n w) 0 (λ j m. below j (le_trans m h.nonempty)) ∙ h.literal;
                blank = λ i m. row_away i (λ e. omega arith) ∙ h.blank i (omega arith);
              };
          more = omega arith;
          kept = below;
        }

    pub one_more_within : Within (trees (with_row t n w) (n + 1)) (row_tree w (trees t n) ∷ trees t n)
    one_more_within z m =
        ⊎_elim Memᴰ.tail (λ k. Memᴰ.head (Memᴰ.eq_of_singleton k))
        (Memᴰ.append_cases (trees t n) (subst (Memᴰ z) (ap (trees (with_row t n w)) (add-one n) ∙ more_trees) m))
