-- Rows as 01's table of kinds has them: the tree of such a row, its children, and that over different trees the tree tells the row. What the
-- check lets through is such a row. Leans on `Meaning`.
use Prim.Native.Nat.{ℕ, ◌≤◌, ◌<◌}
use native.Mathlib.Omega.{arith}
use native.Mathlib.Nat.{lt_of_lt_of_le}
use mathlib.Core.Path.{◌≡◌, refl, sym, ap, ap₂, ◌∙◌, subst}
use mathlib.Core.Bool.{true, ◌&&◌}
use mathlib.Core.List.{List, [], ◌∷◌, Memᴰ}
use lib.Dec.{eqb, leb}
use borrow.Author.Tests.{eqb-true, leb-true}
use lib.ListN.{length, get_or}
use Rattle.theory.specs.Kind
use Rattle.theory.specs.Limit.{last_letter}
use Rattle.theory.specs.Expression.{Expression, same, pair, Sign, ∅, ε, letter, binary, star}
use Rattle.theory.specs.Distinct.{NoRepeats, place}
use Rattle.theory.specs.Table.{Row, entry, Sound, of_∅, of_ε, of_letter, of_sign, of_star, kind_of_sign, Meaning, ∅_kind, ε_kind, letter_kind, sign_kind, star_kind, unknown_kind, meaning, node, row_tree, fields_fit, children, row_children, Faultless}
use Rattle.theory.proofs.Distinct.{place_of}
use Rattle.theory.proofs.Meaning.{Numbered, numbered, sign_meaning, row_is, children_sign}
use Rattle.theory.proofs.Tests.{and_left, and_right}

-- ---- The tree of a row

pub sign_tree : (s : Sign) (l r : ℕ) (ts : List Expression) → row_tree (entry (kind_of_sign s) l r) ts ≡ pair s (get_or ts l ∅) (get_or ts r ∅)
unfolding row_tree node
sign_tree s l r ts = rw (sign_meaning s)

pub star_tree : (l : ℕ) (ts : List Expression) → row_tree (entry Kind.star l 0) ts ≡ star (get_or ts l ∅)
unfolding row_tree meaning node
star_tree l ts = refl

-- A row's tree asks only for the trees of its children.
pub row_tree_cong : {i : ℕ} {w : Row} (ts us : List Expression) → Sound i w → ((k : ℕ) → k < i → get_or ts k ∅ ≡ get_or us k ∅)
    → row_tree w ts ≡ row_tree w us
unfolding row_tree meaning node
row_tree_cong ts us (of_∅ e) h = rw e
row_tree_cong ts us (of_ε e) h = rw e
row_tree_cong ts us (of_letter a low high e) h = rw e
row_tree_cong ts us (of_sign s l r hl hr e) h =
    ap (λ v. row_tree v ts) e ∙ sign_tree s l r ts ∙ ap₂ (pair s) (h l hl) (h r hr) ∙ sym (sign_tree s l r us) ∙ sym (ap (λ v. row_tree v us) e)
row_tree_cong ts us (of_star l hl e) h = ap (λ v. row_tree v ts) e ∙ ap star (h l hl) ∙ sym (ap (λ v. row_tree v us) e)

-- ---- The row of a tree

-- The row that has the tree e over the different trees ts.
row_of : List Expression → Expression → Row
row_of ts ∅ = entry Kind.empty_language 0 0
row_of ts ε = entry Kind.empty_word 0 0
row_of ts (letter a) = entry Kind.letter a 0
row_of ts (binary s x y) = entry (kind_of_sign s) (place same x ts) (place same y ts)
row_of ts (star x) = entry Kind.star (place same x ts) 0

row_of_pair : (ts : List Expression) (s : Sign) (x y : Expression) → row_of ts (pair s x y) ≡ entry (kind_of_sign s) (place same x ts) (place same y ts)
unfolding row_of pair
row_of_pair ts s x y = refl

row_of_tree : {i : ℕ} {w : Row} (ts : List Expression) → NoRepeats ts → i ≤ length ts → Sound i w → row_of ts (row_tree w ts) ≡ w
unfolding row_of row_tree meaning node
row_of_tree ts once in-ts (of_∅ e) = ap (λ v. row_of ts (row_tree v ts)) e ∙ sym e
row_of_tree ts once in-ts (of_ε e) = ap (λ v. row_of ts (row_tree v ts)) e ∙ sym e
row_of_tree ts once in-ts (of_letter a low high e) = ap (λ v. row_of ts (row_tree v ts)) e ∙ sym e
row_of_tree ts once in-ts (of_sign s l r hl hr e) =
    ap (λ v. row_of ts (row_tree v ts)) e ∙ ap (row_of ts) (sign_tree s l r ts) ∙ row_of_pair ts s (get_or ts l ∅) (get_or ts r ∅)
    ∙ ap₂ (entry (kind_of_sign s)) (place_of same ts l ∅ once (lt_of_lt_of_le hl in-ts)) (place_of same ts r ∅ once (lt_of_lt_of_le hr in-ts)) ∙ sym e
row_of_tree ts once in-ts (of_star l hl e) =
    ap (λ v. row_of ts (row_tree v ts)) e ∙ ap (λ (k : ℕ). entry Kind.star k 0) (place_of same ts l ∅ once (lt_of_lt_of_le hl in-ts)) ∙ sym e

-- Over different trees, rows with the same tree are the same.
pub row_told : {i j : ℕ} {w v : Row} (ts : List Expression) → NoRepeats ts → i ≤ length ts → j ≤ length ts → Sound i w → Sound j v
    → row_tree w ts ≡ row_tree v ts → w ≡ v
row_told ts once hi hj p q e = sym (row_of_tree ts once hi p) ∙ ap (row_of ts) e ∙ row_of_tree ts once hj q

-- ---- Children

-- The children that a row names, with what the row is.
pub data Parent (i : ℕ) (w : Row) : List ℕ → Type 0 where
  leaf : ((j : ℕ) → Sound j w) → Parent i w []
  over_one : (l : ℕ) → l < i → w ≡ entry Kind.star l 0 → Parent i w (l ∷ [])
  over_two : (s : Sign) (l r : ℕ) → l < i → r < i → w ≡ entry (kind_of_sign s) l r → Parent i w (l ∷ r ∷ [])

pub parent : {i : ℕ} {w : Row} → Sound i w → Parent i w (row_children w)
unfolding row_children meaning children
parent {i} {w} (of_∅ e) = subst (Parent i w) (sym (ap row_children e)) (leaf (λ j. of_∅ e))
parent {i} {w} (of_ε e) = subst (Parent i w) (sym (ap row_children e)) (leaf (λ j. of_ε e))
parent {i} {w} (of_letter a low high e) = subst (Parent i w) (sym (ap row_children e)) (leaf (λ j. of_letter a low high e))
parent {i} {w} (of_sign s l r hl hr e) =
    subst (Parent i w) (sym (ap row_children e ∙ children_sign (entry (kind_of_sign s) l r) s refl)) (over_two s l r hl hr e)
parent {i} {w} (of_star l hl e) = subst (Parent i w) (sym (ap row_children e)) (over_one l hl e)

pub of_none : {i : ℕ} {w : Row} → Parent i w [] → (j : ℕ) → Sound j w
of_none (leaf h) = h

pub of_one : {i c : ℕ} {w : Row} → Parent i w (c ∷ []) → (c < i) × (w ≡ entry Kind.star c 0)
of_one (over_one l hl e) = (hl, e)

pub of_two : {i c d : ℕ} {w : Row} → Parent i w (c ∷ d ∷ []) → (s : Sign) × (c < i) × (d < i) × (w ≡ entry (kind_of_sign s) c d)
of_two (over_two s l r hl hr e) = (s, hl, hr, e)

-- ---- Entries without fault

-- What the check lets through is a row of 01's table of kinds.
pub faultless_sound : {n i : ℕ} {w : Row} → Faultless n i w → Sound i w
unfolding fields_fit row_children children
faultless_sound {n} {i} {w} h = go (meaning w.kind) (numbered w.kind) h.fits h.smaller
  where
    nothing : {k : ℕ} → w.kind ≡ k → (eqb w.left 0 && eqb w.right 0) ≡ true → w ≡ entry k 0 0
    nothing e f =
        row_is e (eqb-true w.left 0 (and_left (eqb w.left 0) (eqb w.right 0) f))
        (eqb-true w.right 0 (and_right (eqb w.left 0) (eqb w.right 0) f))

    lettered : w.kind ≡ Kind.letter → (leb 1 w.left && leb w.left last_letter && eqb w.right 0) ≡ true → Sound i w
    lettered e f =
        let range = and_left (leb 1 w.left && leb w.left last_letter) (eqb w.right 0) f in
        of_letter w.left (leb-true 1 w.left (and_left (leb 1 w.left) (leb w.left last_letter) range))
        (leb-true w.left last_letter (and_right (leb 1 w.left) (leb w.left last_letter) range))
        (row_is e refl (eqb-true w.right 0 (and_right (leb 1 w.left && leb w.left last_letter) (eqb w.right 0) f)))

    go : (m : Meaning) → Numbered m w.kind → fields_fit m w.left w.right ≡ true
        → ((c : ℕ) → Memᴰ c (children m w.left w.right) → c < i) → Sound i w
    go ∅_kind e f s = of_∅ (nothing e f)
    go ε_kind e f s = of_ε (nothing e f)
    go letter_kind e f s = lettered e f
    go (sign_kind g) e f s =
        of_sign g w.left w.right (s w.left (Memᴰ.head refl)) (s w.right (Memᴰ.tail (Memᴰ.head refl))) (row_is e refl refl)
    go star_kind e f s = of_star w.left (s w.left (Memᴰ.head refl)) (row_is e refl (eqb-true w.right 0 f))
    go unknown_kind e f s = absurd (let k = h.known in omega arith)
