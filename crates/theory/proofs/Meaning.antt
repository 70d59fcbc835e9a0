-- 01's table of kinds read both ways: the meaning that a number has, and the number that has a meaning. With it which fields a row fills and
-- which children it names, by its kind. A kind more is a line more of `numbered`.
use Prim.Native.Nat.{ℕ, zero, suc, ◌+◌, ◌≤◌, ◌<◌}
use native.Mathlib.Nat.{zero-add, add-zero, add-suc, suc-add}
use native.Mathlib.Omega.{arith}
use mathlib.Core.Path.{◌≡◌, refl, sym, ap, ◌∙◌}
use mathlib.Core.Bool.{true}
use mathlib.Core.List.{List, [], ◌∷◌}
use lib.ListN.{length, get_or, get_or-eq_default}
use Rattle.theory.specs.Kind
use Rattle.theory.specs.Expression.{Sign, union, concatenation, shuffle}
use Rattle.theory.specs.Table.{Row, entry, Meaning, ∅_kind, ε_kind, letter_kind, sign_kind, star_kind, unknown_kind, kinds, meaning, kind_of_sign, fields_fit, children, row_children}

-- ---- A list read by places

-- P of each place from i on and the member there.
abbrev Placed : {A : Type 0} → (ℕ → A → Type 0) → ℕ → List A → Type 0
Placed P i [] = Unit {0}
Placed P i (x ∷ xs) = P i x × Placed P (suc i) xs

placed : {A : Type 0} (P : ℕ → A → Type 0) (d : A) (i : ℕ) (xs : List A) → Placed P i xs → ((k : ℕ) → i + length xs ≤ k → P k d)
    → (k : ℕ) → P (i + k) (get_or xs k d)
placed P d i [] h beyond k = beyond (i + k) (omega arith)
placed P d i (x ∷ xs) h beyond zero = rw add-zero h.0
placed P d i (x ∷ xs) h beyond (suc k) = rw (add-suc, ← suc-add) (placed P d (suc i) xs h.1 (λ j l. beyond j (omega arith)) k)

-- ---- Numbers and meanings

-- k is the kind of this meaning.
abbrev pub Numbered : Meaning → ℕ → Type 0
Numbered ∅_kind k = k ≡ Kind.empty_language
Numbered ε_kind k = k ≡ Kind.empty_word
Numbered letter_kind k = k ≡ Kind.letter
Numbered (sign_kind s) k = k ≡ kind_of_sign s
Numbered star_kind k = k ≡ Kind.star
Numbered unknown_kind k = Kind.last < k

pub numbered : (k : ℕ) → Numbered (meaning k) k
unfolding meaning kind_of_sign
numbered k =
    rw zero-add at (placed (λ k m. Numbered m k) unknown_kind 0 kinds (refl, (refl, (refl, (refl, (refl, (refl, (refl, tt))))))) (λ j l. omega arith) k)

pub sign_meaning : (s : Sign) → meaning (kind_of_sign s) ≡ sign_kind s
unfolding meaning kind_of_sign
sign_meaning union = refl
sign_meaning concatenation = refl
sign_meaning shuffle = refl

-- A kind that is none of the signs'.
pub no_sign : (k : ℕ) → (k ≡ Kind.union → ⊥) → (k ≡ Kind.concatenation → ⊥) → (k ≡ Kind.shuffle → ⊥) → (s : Sign) → k ≡ kind_of_sign s → ⊥
unfolding kind_of_sign
no_sign k a b c union e = a e
no_sign k a b c concatenation e = b e
no_sign k a b c shuffle e = c e

pub meaning_is : (m : Meaning) (k : ℕ) → Numbered m k → meaning k ≡ m
unfolding meaning
meaning_is ∅_kind k e = rw e
meaning_is ε_kind k e = rw e
meaning_is letter_kind k e = rw e
meaning_is (sign_kind s) k e = ap meaning e ∙ sign_meaning s
meaning_is star_kind k e = rw e
meaning_is unknown_kind k l = get_or-eq_default kinds unknown_kind {n = k} (omega arith)

-- A number has one meaning.
pub one_meaning : (m n : Meaning) (k : ℕ) → Numbered m k → Numbered n k → m ≡ n
one_meaning m n k p q = sym (meaning_is m k p) ∙ meaning_is n k q

-- ---- The fields of a row

pub kind_is : {w : Row} {k l r : ℕ} → w ≡ entry k l r → w.kind ≡ k
kind_is e = ap (λ (v : Row). v.kind) e

pub left_is : {w : Row} {k l r : ℕ} → w ≡ entry k l r → w.left ≡ l
left_is e = ap (λ (v : Row). v.left) e

pub right_is : {w : Row} {k l r : ℕ} → w ≡ entry k l r → w.right ≡ r
right_is e = ap (λ (v : Row). v.right) e

pub row_is : {w : Row} {k l r : ℕ} → w.kind ≡ k → w.left ≡ l → w.right ≡ r → w ≡ entry k l r
row_is a b c = λ j. record { kind = a j; left = b j; right = c j }

pub fits_as : (m : Meaning) (k l r : ℕ) → Numbered m k → fields_fit (meaning k) l r ≡ fields_fit m l r
fits_as m k l r h = ap (λ n. fields_fit n l r) (meaning_is m k h)

-- A kind whose fields hold children, or that is unknown, has no other field.
pub fits_other : (k l r : ℕ) → (k ≡ Kind.empty_language → ⊥) → (k ≡ Kind.empty_word → ⊥) → (k ≡ Kind.letter → ⊥) → (k ≡ Kind.star → ⊥)
    → fields_fit (meaning k) l r ≡ true
unfolding fields_fit
fits_other k l r a b c d = go (meaning k) (numbered k)
  where
    go : (m : Meaning) → Numbered m k → fields_fit m l r ≡ true
    go ∅_kind e = absurd (a e)
    go ε_kind e = absurd (b e)
    go letter_kind e = absurd (c e)
    go (sign_kind s) e = refl
    go star_kind e = absurd (d e)
    go unknown_kind e = refl

-- ---- The children of a row

module _ (w : Row) where
  pub children_sign : (s : Sign) → w.kind ≡ kind_of_sign s → row_children w ≡ w.left ∷ w.right ∷ []
  unfolding row_children
  children_sign s e = ap (λ m. children m w.left w.right) (meaning_is (sign_kind s) w.kind e)

  pub children_star : w.kind ≡ Kind.star → row_children w ≡ w.left ∷ []
  unfolding row_children
  children_star e = ap (λ m. children m w.left w.right) (meaning_is star_kind w.kind e)

  pub children_none : ((s : Sign) → w.kind ≡ kind_of_sign s → ⊥) → (w.kind ≡ Kind.star → ⊥) → row_children w ≡ []
  unfolding row_children
  children_none a b = go (meaning w.kind) (numbered w.kind)
    where
      go : (m : Meaning) → Numbered m w.kind → children m w.left w.right ≡ []
      go ∅_kind e = refl
      go ε_kind e = refl
      go letter_kind e = refl
      go (sign_kind s) e = absurd (a s e)
      go star_kind e = absurd (b e)
      go unknown_kind e = refl
