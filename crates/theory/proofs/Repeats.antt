-- Repeats in the parts of a list do not matter to `distinct`: in lists put one after the other, and under a function on each member.
-- Leans on `Distinct` alone.
use mathlib.Core.Path.{◌≡◌, refl, sym, ap, ap₂, ◌∙◌}
use mathlib.Core.List.{List, [], ◌∷◌, ◌++◌, map}
use Rattle.theory.specs.Distinct.{without, distinct, beyond}
use Rattle.theory.proofs.Distinct.{without_here, without_other, without_of, without_absent, distinct_no_repeats, distinct_same, distinct_append}

module _ {A : Type 0} (same : Discrete A) where
  -- ---- `without` after `without`

  without_twice : (x : A) (ys : List A) → without same x (without same x ys) ≡ without same x ys
  without_twice x ys = without_absent same x (without same x ys) (λ m. (without_of same x ys m).1 refl)

  without_exchange : (x y : A) (zs : List A) → without same x (without same y zs) ≡ without same y (without same x zs)
  unfolding without
  without_exchange x y [] = refl
  without_exchange x y (z ∷ zs) = go (same x z) (same y z) (without_exchange x y zs)
    where
      go : Dec (x ≡ z) → Dec (y ≡ z) → without same x (without same y zs) ≡ without same y (without same x zs)
          → without same x (without same y (z ∷ zs)) ≡ without same y (without same x (z ∷ zs))
      go (yes p) (yes q) ih = rw (without_here same y z zs q, without_here same x z zs p) ih
      go (yes p) (no k) ih = rw (without_other same y z zs k, without_here same x z (without same y zs) p, without_here same x z zs p) ih
      go (no n) (yes q) ih = rw (without_here same y z zs q, without_other same x z zs n, without_here same y z (without same x zs) q) ih
      go (no n) (no k) ih =
          rw (
            without_other same y z zs k,
            without_other same x z (without same y zs) n,
            without_other same x z zs n,
            without_other same y z (without same x zs) k,
          )
          (ap {B = List A} (λ t. z ∷ t) ih)

  -- ---- Lists put one after the other

  beyond_without : (x : A) (ys zs : List A) → without same x (beyond same (without same x ys) zs) ≡ without same x (beyond same ys zs)
  unfolding beyond without
  beyond_without x [] zs = refl
  beyond_without x (y ∷ ys) zs = go (same x y) (beyond_without x ys zs)
    where
      go : Dec (x ≡ y) → without same x (beyond same (without same x ys) zs) ≡ without same x (beyond same ys zs)
          → without same x (beyond same (without same x (y ∷ ys)) zs) ≡ without same x (without same y (beyond same ys zs))
      go (yes p) ih =
          rw (without_here same x y ys p) (ih ∙ sym (without_twice x (beyond same ys zs)) ∙ ap (λ z. without same x (without same z (beyond same ys zs))) p)
      go (no n) ih =
          rw (without_other same x y ys n)
          (without_exchange x y (beyond same (without same x ys) zs) ∙ ap (without same y) ih ∙ without_exchange y x (beyond same ys zs))

  beyond_distinct : (xs zs : List A) → beyond same (distinct same xs) zs ≡ beyond same xs zs
  unfolding beyond distinct
  beyond_distinct [] zs = refl
  beyond_distinct (x ∷ xs) zs = beyond_without x (distinct same xs) zs ∙ ap (without same x) (beyond_distinct xs zs)

  distinct_again : (xs : List A) → distinct same (distinct same xs) ≡ distinct same xs
  distinct_again xs = distinct_same same (distinct same xs) (distinct_no_repeats same xs)

  distinct_both : (xs ys : List A) → distinct same (distinct same xs ++ distinct same ys) ≡ distinct same (xs ++ ys)
  distinct_both xs ys =
      distinct_append same (distinct same xs) (distinct same ys)
      ∙ rw (distinct_again xs, distinct_again ys, beyond_distinct xs (distinct same ys)) (sym (distinct_append same xs ys))

  -- Lists that are the same once their repeats are taken out.
  pub record Alike (xs ys : List A) : Type 0 where
    pub once : distinct same xs ≡ distinct same ys

  pub alike_distinct : (xs : List A) → Alike xs (distinct same xs)
  alike_distinct xs = record { once = sym (distinct_again xs) }

  pub alike_append : {xs us ys vs : List A} → Alike xs us → Alike ys vs → Alike (xs ++ ys) (us ++ vs)
  alike_append {xs} {us} {ys} {vs} p q =
      record { once = sym (distinct_both xs ys) ∙ ap₂ (λ a b. distinct same (a ++ b)) p.once q.once ∙ distinct_both us vs }

  -- ---- A function on each member

  distinct_without : (x : A) (ys : List A) → distinct same (without same x ys) ≡ without same x (distinct same ys)
  unfolding distinct without
  distinct_without x [] = refl
  distinct_without x (y ∷ ys) = go (same x y) (distinct_without x ys)
    where
      go : Dec (x ≡ y) → distinct same (without same x ys) ≡ without same x (distinct same ys)
          → distinct same (without same x (y ∷ ys)) ≡ without same x (y ∷ without same y (distinct same ys))
      go (yes p) ih =
          rw (without_here same x y ys p, without_here same x y (without same y (distinct same ys)) p)
          (ih ∙ sym (without_twice x (distinct same ys)) ∙ ap (λ z. without same x (without same z (distinct same ys))) p)
      go (no n) ih =
          rw (without_other same x y ys n, without_other same x y (without same y (distinct same ys)) n)
          (ap {B = List A} (λ t. y ∷ t) (ap (without same y) ih ∙ without_exchange y x (distinct same ys)))

module _ {A B : Type 0} (same : Discrete A) (same' : Discrete B) (f : A → B) where
  map_without : (x : A) (ys : List A) → without same' (f x) (map f (without same x ys)) ≡ without same' (f x) (map f ys)
  unfolding without
  map_without x [] = refl
  map_without x (y ∷ ys) = go (same x y) (same' (f x) (f y)) (map_without x ys)
    where
      go : Dec (x ≡ y) → Dec (f x ≡ f y) → without same' (f x) (map f (without same x ys)) ≡ without same' (f x) (map f ys)
          → without same' (f x) (map f (without same x (y ∷ ys))) ≡ without same' (f x) (f y ∷ map f ys)
      go (yes p) d ih = rw (without_here same x y ys p, without_here same' (f x) (f y) (map f ys) (ap f p)) ih
      go (no n) (yes q) ih =
          rw (without_other same x y ys n, without_here same' (f x) (f y) (map f (without same x ys)) q, without_here same' (f x) (f y) (map f ys) q) ih
      go (no n) (no k) ih =
          rw (without_other same x y ys n, without_other same' (f x) (f y) (map f (without same x ys)) k, without_other same' (f x) (f y) (map f ys) k)
          (ap {B = List B} (λ t. f y ∷ t) ih)

  distinct_map : (xs : List A) → distinct same' (map f (distinct same xs)) ≡ distinct same' (map f xs)
  unfolding distinct
  distinct_map [] = refl
  distinct_map (x ∷ xs) =
      let ys = distinct same xs in
      ap {B = List B} (λ t. f x ∷ t)
      (sym (distinct_without same' (f x) (map f (without same x ys))) ∙ ap (distinct same') (map_without x ys)
      ∙ distinct_without same' (f x) (map f ys) ∙ ap (without same' (f x)) (distinct_map xs))

  pub alike_map : (xs : List A) → Alike same' (map f xs) (map f (distinct same xs))
  alike_map xs = record { once = sym (distinct_map xs) }
