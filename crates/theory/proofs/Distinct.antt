-- Laws of lists without repeats: what `distinct` keeps, that it repeats nothing, what it makes of a list that goes on, and that a list
-- without repeats is no longer than a list that holds all its members.
use Prim.Native.Nat.{ℕ, zero, suc, ◌≤◌, ◌<◌, zero-le, suc-le-suc}
use native.Mathlib.Nat.{le_trans, le_refl, le_of_suc-le-suc, not-suc-le-zero}
use native.Mathlib.Omega.{arith}
use mathlib.Core.Path.{◌≡◌, refl, sym, ap, ◌∙◌}
use mathlib.Core.Logic.{◌⊎◌, inl, inr, ⊎_elim}
use mathlib.Core.List.Memᴰ
use mathlib.Core.List.{List, [], ◌∷◌, ◌++◌, Memᴰ, append-nil}
use lib.ListN.{length, get_or}
use Rattle.theory.specs.Distinct.{unless, here_or, without, distinct, beyond, place, NoRepeats, Within}

pub get_or_member : {A : Type 0} (ys : List A) (i : ℕ) (d : A) → i < length ys → Memᴰ (get_or ys i d) ys
get_or_member [] i d h = absurd (not-suc-le-zero h)
get_or_member (y ∷ ys) zero d h = Memᴰ.head refl
get_or_member (y ∷ ys) (suc i) d h = Memᴰ.tail (get_or_member ys i d (le_of_suc-le-suc h))

module _ {A : Type 0} (same : Discrete A) where
  pub member? : (x : A) (xs : List A) → Dec (Memᴰ x xs)
  member? x [] = no Memᴰ.not-nil
  member? x (y ∷ ys) = go (same x y) (member? x ys)
    where
      go : Dec (x ≡ y) → Dec (Memᴰ x ys) → Dec (Memᴰ x (y ∷ ys))
      go (yes e) d = yes (Memᴰ.head e)
      go (no n) (yes m) = yes (Memᴰ.tail m)
      go (no n) (no k) = no (λ h. ⊎_elim n k (Memᴰ.cases_cons h))

  -- ---- `without`

  pub without_here : (x y : A) (ys : List A) → x ≡ y → without same x (y ∷ ys) ≡ without same x ys
  unfolding without
  without_here x y ys e = go (same x y)
    where
      go : (d : Dec (x ≡ y)) → unless d y (without same x ys) ≡ without same x ys
      go (yes p) = refl
      go (no n) = absurd (n e)

  pub without_other : (x y : A) (ys : List A) → (x ≡ y → ⊥) → without same x (y ∷ ys) ≡ y ∷ without same x ys
  unfolding without
  without_other x y ys n = go (same x y)
    where
      go : (d : Dec (x ≡ y)) → unless d y (without same x ys) ≡ y ∷ without same x ys
      go (yes p) = absurd (n p)
      go (no k) = refl

  -- What is left is a member other than x.
  pub without_of : (x : A) (ys : List A) {z : A} → Memᴰ z (without same x ys) → Memᴰ z ys × (z ≡ x → ⊥)
  unfolding without
  without_of x [] m = absurd (Memᴰ.not-nil m)
  without_of x (y ∷ ys) {z} m = go (same x y) (λ k. without_of x ys k) m
    where
      go : (d : Dec (x ≡ y)) → (Memᴰ z (without same x ys) → Memᴰ z ys × (z ≡ x → ⊥))
          → Memᴰ z (unless d y (without same x ys)) → Memᴰ z (y ∷ ys) × (z ≡ x → ⊥)
      go (yes p) ih k = (Memᴰ.tail (ih k).0, (ih k).1)
      go (no n) ih k =
          ⊎_elim (λ e. (Memᴰ.head e, λ q. n (sym q ∙ e))) (λ t. (Memᴰ.tail (ih t).0, (ih t).1)) (Memᴰ.cases_cons k)

  -- Every member other than x is left.
  pub to_without : (x : A) (ys : List A) {z : A} → Memᴰ z ys → (z ≡ x → ⊥) → Memᴰ z (without same x ys)
  unfolding without
  to_without x [] m n = absurd (Memᴰ.not-nil m)
  to_without x (y ∷ ys) {z} m n = go (same x y) (λ t. to_without x ys t n) (Memᴰ.cases_cons m)
    where
      go : (d : Dec (x ≡ y)) → (Memᴰ z ys → Memᴰ z (without same x ys)) → (z ≡ y) ⊎ Memᴰ z ys
          → Memᴰ z (unless d y (without same x ys))
      go (yes p) ih (inl e) = absurd (n (e ∙ sym p))
      go (yes p) ih (inr t) = ih t
      go (no k) ih (inl e) = Memᴰ.head e
      go (no k) ih (inr t) = Memᴰ.tail (ih t)

  pub without_no_repeats : (x : A) (ys : List A) → NoRepeats ys → NoRepeats (without same x ys)
  unfolding without
  without_no_repeats x [] r = tt
  without_no_repeats x (y ∷ ys) r = go (same x y) (without_no_repeats x ys r.1)
    where
      go : (d : Dec (x ≡ y)) → NoRepeats (without same x ys) → NoRepeats (unless d y (without same x ys))
      go (yes p) ih = ih
      go (no n) ih = (λ m. r.0 (without_of x ys m).0, ih)

  -- Nothing is taken out where x does not stand.
  pub without_absent : (x : A) (ys : List A) → (Memᴰ x ys → ⊥) → without same x ys ≡ ys
  unfolding without
  without_absent x [] n = refl
  without_absent x (y ∷ ys) n = go (same x y) (without_absent x ys (λ m. n (Memᴰ.tail m)))
    where
      go : (d : Dec (x ≡ y)) → without same x ys ≡ ys → unless d y (without same x ys) ≡ y ∷ ys
      go (yes p) ih = absurd (n (Memᴰ.head p))
      go (no k) ih = ap {B = List A} (λ t. y ∷ t) ih

  pub without_append : (x : A) (ys zs : List A) → without same x (ys ++ zs) ≡ without same x ys ++ without same x zs
  unfolding without
  without_append x [] zs = refl
  without_append x (y ∷ ys) zs = go (same x y) (without_append x ys zs)
    where
      go : (d : Dec (x ≡ y)) → without same x (ys ++ zs) ≡ without same x ys ++ without same x zs
          → unless d y (without same x (ys ++ zs)) ≡ unless d y (without same x ys) ++ without same x zs
      go (yes p) ih = ih
      go (no k) ih = ap {B = List A} (λ t. y ∷ t) ih

  -- ---- `distinct`

  pub distinct_of : (xs : List A) → Within (distinct same xs) xs
  unfolding distinct
  distinct_of [] z m = m
  distinct_of (x ∷ xs) z m =
      ⊎_elim (λ e. Memᴰ.head e) (λ t. Memᴰ.tail (distinct_of xs z (without_of x (distinct same xs) t).0)) (Memᴰ.cases_cons m)

  pub to_distinct : (xs : List A) → Within xs (distinct same xs)
  unfolding distinct
  to_distinct [] z m = m
  to_distinct (x ∷ xs) z m = go (same z x) (λ t. to_distinct xs z t) (Memᴰ.cases_cons m)
    where
      go : Dec (z ≡ x) → (Memᴰ z xs → Memᴰ z (distinct same xs)) → (z ≡ x) ⊎ Memᴰ z xs
          → Memᴰ z (x ∷ without same x (distinct same xs))
      go (yes e) ih h = Memᴰ.head e
      go (no n) ih (inl e) = Memᴰ.head e
      go (no n) ih (inr t) = Memᴰ.tail (to_without x (distinct same xs) (ih t) n)

  pub distinct_no_repeats : (xs : List A) → NoRepeats (distinct same xs)
  unfolding distinct
  distinct_no_repeats [] = tt
  distinct_no_repeats (x ∷ xs) =
      (λ m. (without_of x (distinct same xs) m).1 refl, without_no_repeats x (distinct same xs) (distinct_no_repeats xs))

  pub distinct_same : (xs : List A) → NoRepeats xs → distinct same xs ≡ xs
  unfolding distinct
  distinct_same [] r = refl
  distinct_same (x ∷ xs) r =
      ap {B = List A} (λ t. x ∷ t) (ap (λ t. without same x t) (distinct_same xs r.1) ∙ without_absent x xs r.0)

  -- ---- A list that goes on

  -- `distinct` of a longer list begins with `distinct` of the shorter: what is numbered keeps its number.
  pub distinct_append : (xs ys : List A) → distinct same (xs ++ ys) ≡ distinct same xs ++ beyond same xs (distinct same ys)
  unfolding distinct beyond
  distinct_append [] ys = refl
  distinct_append (x ∷ xs) ys =
      ap {B = List A} (λ t. x ∷ t)
      (ap (λ t. without same x t) (distinct_append xs ys) ∙ without_append x (distinct same xs) (beyond same xs (distinct same ys)))

  pub beyond_of : (xs ys : List A) {z : A} → Memᴰ z (beyond same xs ys) → Memᴰ z ys × (Memᴰ z xs → ⊥)
  unfolding beyond
  beyond_of [] ys m = (m, Memᴰ.not-nil)
  beyond_of (x ∷ xs) ys m =
      let w = without_of x (beyond same xs ys) m in
      let b = beyond_of xs ys w.0 in
      (b.0, λ h. ⊎_elim w.1 b.1 (Memᴰ.cases_cons h))

  pub beyond_new : (xs : List A) (y : A) → (Memᴰ y xs → ⊥) → beyond same xs (y ∷ []) ≡ y ∷ []
  unfolding beyond
  beyond_new [] y n = refl
  beyond_new (x ∷ xs) y n =
      ap (λ t. without same x t) (beyond_new xs y (λ m. n (Memᴰ.tail m)))
      ∙ without_absent x (y ∷ []) (λ m. ⊎_elim (λ e. n (Memᴰ.head (sym e))) Memᴰ.not-nil (Memᴰ.cases_cons m))

  pub beyond_nil : (xs : List A) → beyond same xs [] ≡ []
  unfolding beyond without
  beyond_nil [] = refl
  beyond_nil (x ∷ xs) = ap (λ t. without same x t) (beyond_nil xs)

  beyond_known : (xs : List A) (y : A) → Memᴰ y xs → beyond same xs (y ∷ []) ≡ []
  unfolding beyond
  beyond_known xs y m = empty (beyond same xs (y ∷ [])) (λ z h. (beyond_of xs (y ∷ []) h).1 (Memᴰ.cast (only z (beyond_of xs (y ∷ []) h).0) m))
    where
      only : (z : A) → Memᴰ z (y ∷ []) → z ≡ y
      only z h = ⊎_elim (λ e. e) (λ t. absurd (Memᴰ.not-nil t)) (Memᴰ.cases_cons h)

      empty : (l : List A) → ((z : A) → Memᴰ z l → ⊥) → l ≡ []
      empty [] n = refl
      empty (z ∷ l) n = absurd (n z (Memᴰ.head refl))

  -- One more: a member that stands there already changes nothing, a new one comes last.
  pub distinct_known : (xs : List A) (y : A) → Memᴰ y xs → distinct same (xs ++ (y ∷ [])) ≡ distinct same xs
  unfolding distinct without
  distinct_known xs y m =
      distinct_append xs (y ∷ []) ∙ ap (λ t. distinct same xs ++ t) (beyond_known xs y m) ∙ append-nil (distinct same xs)

  pub distinct_new : (xs : List A) (y : A) → (Memᴰ y xs → ⊥) → distinct same (xs ++ (y ∷ [])) ≡ distinct same xs ++ (y ∷ [])
  unfolding distinct without
  distinct_new xs y n = distinct_append xs (y ∷ []) ∙ ap (λ t. distinct same xs ++ t) (beyond_new xs y n)

  -- ---- Counting

  length_without : (x : A) (ys : List A) → Memᴰ x ys → suc (length (without same x ys)) ≤ length ys
  unfolding without
  length_without x [] m = absurd (Memᴰ.not-nil m)
  length_without x (y ∷ ys) m = go (same x y) (λ t. length_without x ys t) (Memᴰ.cases_cons m)
    where
      shorter : (ys : List A) → length (without same x ys) ≤ length ys
      shorter [] = le_refl zero
      shorter (y ∷ ys) = step (same x y) (shorter ys)
        where
          step : (d : Dec (x ≡ y)) → length (without same x ys) ≤ length ys → length (unless d y (without same x ys)) ≤ suc (length ys)
          step (yes p) ih = omega arith
          step (no n) ih = suc-le-suc ih

      go : (d : Dec (x ≡ y)) → (Memᴰ x ys → suc (length (without same x ys)) ≤ length ys) → (x ≡ y) ⊎ Memᴰ x ys
          → suc (length (unless d y (without same x ys))) ≤ suc (length ys)
      go (yes p) ih h = suc-le-suc (shorter ys)
      go (no n) ih (inl e) = absurd (n e)
      go (no n) ih (inr t) = suc-le-suc (ih t)

  -- A list without repeats is no longer than a list that holds all its members.
  pub no_longer : (xs ys : List A) → NoRepeats xs → Within xs ys → length xs ≤ length ys
  no_longer [] ys r w = zero-le
  no_longer (x ∷ xs) ys r w =
      le_trans
      (suc-le-suc (no_longer xs (without same x ys) r.1 (λ z m. to_without x ys (w z (Memᴰ.tail m)) (λ e. r.0 (Memᴰ.cast (sym e) m)))))
      (length_without x ys (w x (Memᴰ.head refl)))

  -- ---- Places

  pub place_below : (x : A) (ys : List A) → Memᴰ x ys → place same x ys < length ys
  unfolding place
  place_below x [] m = absurd (Memᴰ.not-nil m)
  place_below x (y ∷ ys) m = go (same x y) (λ t. place_below x ys t) (Memᴰ.cases_cons m)
    where
      go : (d : Dec (x ≡ y)) → (Memᴰ x ys → place same x ys < length ys) → (x ≡ y) ⊎ Memᴰ x ys → here_or d (place same x ys) < suc (length ys)
      go (yes p) ih h = suc-le-suc zero-le
      go (no n) ih (inl e) = absurd (n e)
      go (no n) ih (inr t) = suc-le-suc (ih t)

  pub at_place : (x : A) (ys : List A) (d : A) → Memᴰ x ys → get_or ys (place same x ys) d ≡ x
  unfolding place
  at_place x [] d m = absurd (Memᴰ.not-nil m)
  at_place x (y ∷ ys) d m = go (same x y) (λ t. at_place x ys d t) (Memᴰ.cases_cons m)
    where
      go : (k : Dec (x ≡ y)) → (Memᴰ x ys → get_or ys (place same x ys) d ≡ x) → (x ≡ y) ⊎ Memᴰ x ys
          → get_or (y ∷ ys) (here_or k (place same x ys)) d ≡ x
      go (yes p) ih h = sym p
      go (no n) ih (inl e) = absurd (n e)
      go (no n) ih (inr t) = ih t

  pub place_of : (ys : List A) (i : ℕ) (d : A) → NoRepeats ys → i < length ys → place same (get_or ys i d) ys ≡ i
  unfolding place
  place_of [] i d r h = absurd (not-suc-le-zero h)
  place_of (y ∷ ys) zero d r h = go (same y y)
    where
      go : (k : Dec (y ≡ y)) → here_or k (place same y ys) ≡ zero
      go (yes p) = refl
      go (no n) = absurd (n refl)
  place_of (y ∷ ys) (suc i) d r h = go (same (get_or ys i d) y) (place_of ys i d r.1 (le_of_suc-le-suc h))
    where
      go : (k : Dec (get_or ys i d ≡ y)) → place same (get_or ys i d) ys ≡ i → here_or k (place same (get_or ys i d) ys) ≡ suc i
      go (yes p) ih = absurd (r.0 (Memᴰ.cast (sym p) (get_or_member ys i d (le_of_suc-le-suc h))))
      go (no n) ih = ap suc ih
