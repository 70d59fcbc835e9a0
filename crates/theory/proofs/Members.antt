-- Members and lengths of lists that are put together from others: one after another, by a function on each member, and by pairs.
-- Leans on `Distinct` alone.
use Prim.Native.Nat.{ℕ, ◌*◌, ◌≤◌, zero-le}
use native.Mathlib.Nat.{le_trans, mul-le-mul_right, suc-mul, zero-mul}
use native.Mathlib.Omega.{arith}
use mathlib.Core.Path.{◌≡◌, refl, sym, ap, ap₂, ◌∙◌, subst}
use mathlib.Core.Logic.{◌⊎◌, inl, inr, ⊎_elim}
use mathlib.Core.List.Memᴰ
use mathlib.Core.List.{List, [], ◌∷◌, ◌++◌, map, flat_map, Memᴰ, append_assoc}
use lib.ListN.{length, length-append, length-map}
use Rattle.theory.specs.Distinct.{NoRepeats, Within}
use Rattle.theory.proofs.Distinct.{no_longer}

-- What follows in the first list from the first half, and in the second from the second, follows in both together.
pub either_half : {A B : Type 0} {a : A} {z : B} (us : List B) {vs : List B} (xs ys : List A) → (Memᴰ z us → Memᴰ a xs)
    → (Memᴰ z vs → Memᴰ a ys) → Memᴰ z (us ++ vs) → Memᴰ a (xs ++ ys)
either_half us xs ys p q m = ⊎_elim (λ h. Memᴰ.append_left ys (p h)) (λ h. Memᴰ.append_right xs (q h)) (Memᴰ.append_cases us m)

pub within_append : {A : Type 0} (xs us : List A) {ys vs : List A} → Within xs us → Within ys vs → Within (xs ++ ys) (us ++ vs)
within_append xs us {vs = vs} p q z = either_half xs us vs (p z) (q z)

-- Both halves are within one list.
pub within_both : {A : Type 0} (xs : List A) {ys us : List A} → Within xs us → Within ys us → Within (xs ++ ys) us
within_both xs p q z m = ⊎_elim (p z) (q z) (Memᴰ.append_cases xs m)

pub map_same : {A : Type 0} (f : A → A) → ((x : A) → f x ≡ x) → (xs : List A) → map f xs ≡ xs
map_same f h [] = refl
map_same f h (x ∷ xs) = ap₂ {C = List _} (λ y ys. y ∷ ys) (h x) (map_same f h xs)

module _ {A B : Type 0} where
  pub within_map : (f : A → B) (xs : List A) {ys : List A} → Within xs ys → Within (map f xs) (map f ys)
  within_map f xs p z m = let r = Memᴰ.of_map f xs m in Memᴰ.cast (sym r.2) (Memᴰ.map f (p r.0 r.1))

  pub to_flat_map : (f : A → List B) {x : A} {xs : List A} {z : B} → Memᴰ x xs → Memᴰ z (f x) → Memᴰ z (flat_map f xs)
  unfolding flat_map
  to_flat_map f {z = z} (Memᴰ.head {xs = ys} e) h = Memᴰ.append_left (flat_map f ys) (subst (λ y. Memᴰ z (f y)) e h)
  to_flat_map f (Memᴰ.tail {x = y} m) h = Memᴰ.append_right (f y) (to_flat_map f m h)

  pub flat_map_of : (f : A → List B) (xs : List A) {z : B} → Memᴰ z (flat_map f xs) → (x : A) × Memᴰ x xs × Memᴰ z (f x)
  unfolding flat_map
  flat_map_of f [] m = absurd (Memᴰ.not-nil m)
  flat_map_of f (x ∷ xs) {z} m = go (λ h. flat_map_of f xs h) (Memᴰ.append_cases (f x) m)
    where
      go : (Memᴰ z (flat_map f xs) → (y : A) × Memᴰ y xs × Memᴰ z (f y)) → Memᴰ z (f x) ⊎ Memᴰ z (flat_map f xs)
          → (y : A) × Memᴰ y (x ∷ xs) × Memᴰ z (f y)
      go ih (inl h) = (x, Memᴰ.head refl, h)
      go ih (inr h) = let r = ih h in (r.0, Memᴰ.tail r.1, r.2)

  pub flat_map_append : (f : A → List B) (xs ys : List A) → flat_map f (xs ++ ys) ≡ flat_map f xs ++ flat_map f ys
  unfolding flat_map
  flat_map_append f [] ys = refl
  flat_map_append f (x ∷ xs) ys = ap (λ t. f x ++ t) (flat_map_append f xs ys) ∙ sym (append_assoc (f x) (flat_map f xs) (flat_map f ys))

  -- At most k for each member.
  pub length_flat_map : (f : A → List B) (k : ℕ) (xs : List A) → ((x : A) → Memᴰ x xs → length (f x) ≤ k) → length (flat_map f xs) ≤ length xs * k
  unfolding flat_map
  length_flat_map f k [] b = zero-le
  length_flat_map f k (x ∷ xs) b =
      let ih = length_flat_map f k xs (λ y m. b y (Memᴰ.tail m)) in
      let h = b x (Memᴰ.head refl) in
      rw (length-append, suc-mul) (omega arith)

-- At most k for each member that has any, where those are all in one list.
module _ {A B : Type 0} (f : A → List B) (k : ℕ) where
  -- the members of xs that have any
  record Having (xs : List A) : Type 0 where
    kept : List A
    once : NoRepeats kept
    among : Within kept xs
    having_one : (x : A) → Memᴰ x kept → (z : B) × Memᴰ z (f x)
    bound : length (flat_map f xs) ≤ length kept * k

  having : (xs : List A) → NoRepeats xs → ((x : A) → length (f x) ≤ k) → Having xs
  unfolding flat_map
  having [] r b = record { kept = []; once = tt; among = λ z m. m; having_one = λ x m. absurd (Memᴰ.not-nil m); bound = zero-le }
  having (x ∷ xs) r b = go (f x) refl (having xs r.1 b)
    where
      go : (l : List B) → f x ≡ l → Having xs → Having (x ∷ xs)
      go [] e h = record {
        kept = h.kept;
        once = h.once;
        among = λ z m. Memᴰ.tail (h.among z m);
        having_one = h.having_one;
        bound = rw e h.bound;
      }
      go (z ∷ l) e h = record {
        kept = x ∷ h.kept;
        once = (λ m. r.0 (h.among x m), h.once);
        among = λ w m. ⊎_elim (λ p. Memᴰ.head p) (λ t. Memᴰ.tail (h.among w t)) (Memᴰ.cases_cons m);
        having_one = λ w m. ⊎_elim
            (λ p. (z, subst (λ t. Memᴰ z t) (sym (ap f p ∙ e)) (Memᴰ.head refl))) (h.having_one w) (Memᴰ.cases_cons m);
        bound = let s = b x in let t = h.bound in rw (length-append, suc-mul) (omega arith);
      }

  pub length_flat_map_among : Discrete A → (xs ys : List A) → NoRepeats xs → ((x : A) → length (f x) ≤ k)
      → ((x : A) (z : B) → Memᴰ z (f x) → Memᴰ x ys) → length (flat_map f xs) ≤ length ys * k
  length_flat_map_among same xs ys r b w =
      let h = having xs r b in
      le_trans h.bound (mul-le-mul_right k (no_longer same h.kept ys h.once (λ x m. let s = h.having_one x m in w x s.0 s.1)))

-- f of each x and each y
module _ {A B C : Type 0} (f : A → B → C) where
  unfoldable pub pairs : List A → List B → List C
  pairs xs ys = flat_map (λ x. map (f x) ys) xs

  pub to_pairs : {x : A} {y : B} {xs : List A} {ys : List B} → Memᴰ x xs → Memᴰ y ys → Memᴰ (f x y) (pairs xs ys)
  unfolding pairs
  to_pairs {x} {ys = ys} m n = to_flat_map (λ x. map (f x) ys) m (Memᴰ.map (f x) n)

  pub pairs_of : (xs : List A) (ys : List B) {z : C} → Memᴰ z (pairs xs ys) → (x : A) × (y : B) × Memᴰ x xs × Memᴰ y ys × (f x y ≡ z)
  unfolding pairs
  pairs_of xs ys m =
      let r = flat_map_of (λ x. map (f x) ys) xs m in
      let q = Memᴰ.of_map (f r.0) ys r.2 in
      (r.0, q.0, r.1, q.1, q.2)

  pub length_pairs : (xs : List A) (ys : List B) → length (pairs xs ys) ≡ length xs * length ys
  unfolding pairs flat_map
  length_pairs [] ys = sym (zero-mul (length ys))
  length_pairs (x ∷ xs) ys =
      let ih = length_pairs xs ys in
      rw (length-append, suc-mul, length-map) (omega arith)
