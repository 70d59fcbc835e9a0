-- Lists without repeats. 01: "a list without repeats, a repeated member kept at its first place".
use Rattle.std.specs.Prelude.{ℕ, suc}
use mathlib.Core.List.{List, [], ◌∷◌, Memᴰ}

-- y before ys, unless the question is answered yes
abbrev pub unless : {A P : Type 0} → Dec P → A → List A → List A
unless (yes p) y ys = ys
unless (no n) y ys = y ∷ ys

-- 0 where the question is answered yes, and one more than k where it is not
abbrev pub here_or : {P : Type 0} → Dec P → ℕ → ℕ
here_or (yes p) k = 0
here_or (no n) k = suc k

module _ {A : Type 0} (same : Discrete A) where
  -- ys with each x taken out
  unfoldable pub without : A → List A → List A
  without x [] = []
  without x (y ∷ ys) = unless (same x y) y (without x ys)

  -- xs with each member kept at its first place alone
  unfoldable pub distinct : List A → List A
  unfolding without
  distinct [] = []
  distinct (x ∷ xs) = x ∷ without x (distinct xs)

  -- ys with each member of xs taken out
  unfoldable pub beyond : List A → List A → List A
  unfolding without
  beyond [] ys = ys
  beyond (x ∷ xs) ys = without x (beyond xs ys)

  -- the first place of x in ys, from 0; the length of ys where x does not stand in it
  unfoldable pub place : A → List A → ℕ
  place x [] = 0
  place x (y ∷ ys) = here_or (same x y) (place x ys)

-- No member stands twice.
abbrev pub NoRepeats : {A : Type 0} → List A → Type 0
NoRepeats [] = Unit {0}
NoRepeats (x ∷ xs) = (Memᴰ x xs → ⊥) × NoRepeats xs

-- Each member of xs is one of ys.
abbrev pub Within : {A : Type 0} → List A → List A → Type 0
Within {A} xs ys = (z : A) → Memᴰ z xs → Memᴰ z ys
