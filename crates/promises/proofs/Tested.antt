-- What the tests of a table find, by 01's table of kinds. Leans on `Meaning` of the theory: the meaning that a kind's number has.
use Prim.Native.Nat.{ℕ, ◌≤◌}
use native.Mathlib.Omega.{arith}
use mathlib.Core.Path.{◌≡◌, refl, ap, ◌∙◌}
use mathlib.Core.Bool.{true, ◌&&◌, and-eq-true_iff}
use mathlib.Core.Logic.{◌↔◌, ⊎_elim}
use mathlib.Core.List.Memᴰ
use mathlib.Core.List.{Memᴰ}
use lib.Dec.{eqb, leb}
use borrow.Author.Tests.{eqb-true, eq-eqb, leb-true, le-leb}
use Rattle.theory.specs.Expression as Expression
use Rattle.theory.specs.Expression.{Sign}
use Rattle.theory.specs.Table as Tested
use Rattle.theory.specs.Table.{Table, Row, row, size, Meaning, ∅_kind, ε_kind, letter_kind, sign_kind, star_kind, unknown_kind, meaning, kind_of_sign, fields_fit, children, row_children}
use Rattle.theory.proofs.Meaning.{Numbered, numbered, meaning_is}
use Rattle.promises.specs.Table.{FieldsFit, empty_language, empty_word, letter, union, concatenation, shuffle, star, ChildOf, left, right, Faultless, WellFormed, TablesTested}

module _ (w : Row) where
  -- ---- The fields that hold no child

  fits_sign : (s : Sign) → w.kind ≡ kind_of_sign s → FieldsFit w
  unfolding kind_of_sign
  fits_sign Expression.union e = union e
  fits_sign Expression.concatenation e = concatenation e
  fits_sign Expression.shuffle e = shuffle e

  fits_of : (m : Meaning) → Numbered m w.kind → w.kind ≤ 6 → fields_fit m w.left w.right ≡ true → FieldsFit w
  unfolding fields_fit
  fits_of ∅_kind k l e = let (p, q) = (and-eq-true_iff _ _).0 e in empty_language k (eqb-true _ _ p) (eqb-true _ _ q)
  fits_of ε_kind k l e = let (p, q) = (and-eq-true_iff _ _).0 e in empty_word k (eqb-true _ _ p) (eqb-true _ _ q)
  fits_of letter_kind k l e =
      let (range, q) = (and-eq-true_iff (leb 1 w.left && leb w.left 255) (eqb w.right 0)).0 e in
      let (p, b) = (and-eq-true_iff (leb 1 w.left) (leb w.left 255)).0 range in
      let least = leb-true 1 w.left p in
      let most = leb-true w.left 255 b in
      letter k (omega arith) (omega arith) (eqb-true _ _ q)
  fits_of (sign_kind s) k l e = fits_sign s k
  fits_of star_kind k l e = star k (eqb-true _ _ e)
  fits_of unknown_kind k l e = absurd (omega arith)

  tested_as : (m : Meaning) → Numbered m w.kind → fields_fit m w.left w.right ≡ true → fields_fit (meaning w.kind) w.left w.right ≡ true
  tested_as m k e = ap (λ n. fields_fit n w.left w.right) (meaning_is m w.kind k) ∙ e

  pub tested : FieldsFit w → fields_fit (meaning w.kind) w.left w.right ≡ true
  unfolding fields_fit kind_of_sign
  tested (empty_language k p q) = tested_as ∅_kind k (rw (eq-eqb _ _ p, eq-eqb _ _ q))
  tested (empty_word k p q) = tested_as ε_kind k (rw (eq-eqb _ _ p, eq-eqb _ _ q))
  tested (letter k p b q) = tested_as letter_kind k (rw (le-leb 1 w.left (omega arith), le-leb w.left 255 (omega arith), eq-eqb _ _ q))
  tested (union k) = tested_as (sign_kind Expression.union) k refl
  tested (concatenation k) = tested_as (sign_kind Expression.concatenation) k refl
  tested (shuffle k) = tested_as (sign_kind Expression.shuffle) k refl
  tested (star k q) = tested_as star_kind k (eq-eqb _ _ q)

  pub fits : w.kind ≤ 6 → fields_fit (meaning w.kind) w.left w.right ≡ true → FieldsFit w
  fits l e = fits_of (meaning w.kind) (numbered w.kind) l e

  -- A kind with fitting fields is one of 01's table.
  pub known : FieldsFit w → w.kind ≤ 6
  known (empty_language k p q) = omega arith
  known (empty_word k p q) = omega arith
  known (letter k p b q) = omega arith
  known (union k) = omega arith
  known (concatenation k) = omega arith
  known (shuffle k) = omega arith
  known (star k q) = omega arith

  -- ---- The fields that hold a child

  sign_range : (s : Sign) → w.kind ≡ kind_of_sign s → (3 ≤ w.kind) × (w.kind ≤ 5)
  unfolding kind_of_sign
  sign_range Expression.union e = (omega arith, omega arith)
  sign_range Expression.concatenation e = (omega arith, omega arith)
  sign_range Expression.shuffle e = (omega arith, omega arith)

  child_of : (m : Meaning) (c : ℕ) → Numbered m w.kind → Memᴰ c (children m w.left w.right) → ChildOf w c
  unfolding children
  child_of ∅_kind c k h = absurd (Memᴰ.not-nil h)
  child_of ε_kind c k h = absurd (Memᴰ.not-nil h)
  child_of letter_kind c k h = absurd (Memᴰ.not-nil h)
  child_of (sign_kind s) c k h =
      let (a, b) = sign_range s k in
      ⊎_elim (λ e. left a (omega arith) e) (λ t. ⊎_elim (λ e. right a b e) (λ n. absurd (Memᴰ.not-nil n)) (Memᴰ.cases_cons t))
      (Memᴰ.cases_cons h)
  child_of star_kind c k h = ⊎_elim (λ e. left (omega arith) (omega arith) e) (λ n. absurd (Memᴰ.not-nil n)) (Memᴰ.cases_cons h)
  child_of unknown_kind c k h = absurd (Memᴰ.not-nil h)

  named_by : (m : Meaning) (c : ℕ) → Numbered m w.kind → ChildOf w c → Memᴰ c (children m w.left w.right)
  unfolding children
  named_by ∅_kind c k (left a b e) = absurd (omega arith)
  named_by ∅_kind c k (right a b e) = absurd (omega arith)
  named_by ε_kind c k (left a b e) = absurd (omega arith)
  named_by ε_kind c k (right a b e) = absurd (omega arith)
  named_by letter_kind c k (left a b e) = absurd (omega arith)
  named_by letter_kind c k (right a b e) = absurd (omega arith)
  named_by (sign_kind s) c k (left a b e) = Memᴰ.head e
  named_by (sign_kind s) c k (right a b e) = Memᴰ.tail (Memᴰ.head e)
  named_by star_kind c k (left a b e) = Memᴰ.head e
  named_by star_kind c k (right a b e) = absurd (omega arith)
  named_by unknown_kind c k (left a b e) = absurd (omega arith)
  named_by unknown_kind c k (right a b e) = absurd (omega arith)

  pub children_are : (c : ℕ) → Memᴰ c (row_children w) ↔ ChildOf w c
  unfolding row_children
  children_are c = (child_of (meaning w.kind) c (numbered w.kind), named_by (meaning w.kind) c (numbered w.kind))

-- ---- An entry, and the whole table

pub entry_is : (n i : ℕ) (w : Row) → Tested.Faultless n i w ↔ Faultless n i w
entry_is n i w = (
  λ h. record { fits = fits w h.known h.fits; smaller = λ c m. h.smaller c ((children_are w c).1 m); alone = h.alone },
  λ h. record { known = known w h.fits; fits = tested w h.fits; smaller = λ c m. h.smaller c ((children_are w c).0 m); alone = h.alone },
)

pub table_is : (g : Table) → Tested.WellFormed g ↔ WellFormed g
table_is g = (
  λ h. record {
    sized = record { even = h.lengths; nonempty = h.nonempty; short = h.short };
    faultless = λ i l. (entry_is (size g) i (row g i)).0 (h.faultless i l);
    once = h.once;
  },
  λ h. record {
    lengths = h.sized.even;
    nonempty = h.sized.nonempty;
    short = h.sized.short;
    faultless = λ i l. (entry_is (size g) i (row g i)).1 (h.faultless i l);
    once = h.once;
  },
)

pub tables_tested : TablesTested
tables_tested = record { fields = λ w l. (fits w l, tested w); children = children_are; entries = entry_is; tables = table_is }
