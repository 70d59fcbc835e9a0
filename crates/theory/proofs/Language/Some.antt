-- `Some P xs`: P holds of a member of xs. What that says of a list written with [], ++, map, a test or `distinct`. Leans on the laws of
-- `distinct`.
use mathlib.Core.Path.{◌≡◌, refl, sym, subst}
use mathlib.Core.Logic.{◌↔◌, ◌⊎◌, inl, inr, ⊎_elim}
use mathlib.Core.Bool.{Bool, true, false, cond, false≢true}
use mathlib.Core.List.Memᴰ
use mathlib.Core.List.{List, [], ◌∷◌, ◌++◌, map, Memᴰ}
use Rattle.theory.specs.Distinct.{distinct}
use Rattle.theory.proofs.Distinct.{distinct_of, to_distinct}

-- The library has this for the truncated sum alone.
pub ⊎_iff : {A B C D : Type 0} → A ↔ C → B ↔ D → (A ⊎ B) ↔ (C ⊎ D)
⊎_iff p q = (⊎_elim (λ a. inl (p.0 a)) (λ b. inr (q.0 b)), ⊎_elim (λ c. inl (p.1 c)) (λ d. inr (q.1 d)))

abbrev pub Some : {A : Type 0} → (A → Type 0) → List A → Type 0
Some {A} P xs = (x : A) × Memᴰ x xs × P x

module _ {A : Type 0} (P : A → Type 0) where
  pub some_none : Some P [] → ⊥
  some_none s = Memᴰ.not-nil s.1

  pub some_one : (x : A) → Some P (x ∷ []) ↔ P x
  some_one x = (λ s. subst P (Memᴰ.eq_of_singleton s.1) s.2, λ p. (x, Memᴰ.head refl, p))

  pub some_append : (xs ys : List A) → Some P (xs ++ ys) ↔ (Some P xs ⊎ Some P ys)
  some_append xs ys = (
    λ s. ⊎_elim (λ m. inl (s.0, m, s.2)) (λ m. inr (s.0, m, s.2)) (Memᴰ.append_cases xs s.1),
    ⊎_elim (λ s. (s.0, Memᴰ.append_left ys s.1, s.2)) (λ s. (s.0, Memᴰ.append_right xs s.1, s.2)),
  )

  -- a list that stands only where the test is true
  pub some_cond : (b : Bool) (xs : List A) → Some P (cond b xs []) ↔ ((b ≡ true) × Some P xs)
  some_cond true xs = (λ s. (refl, s), λ s. s.1)
  some_cond false xs = (λ s. absurd (some_none s), λ s. absurd (false≢true s.0))

  -- Q is what P says of x through f.
  pub some_map : {B : Type 0} (f : B → A) (Q : B → Type 0) → ((x : B) → P (f x) ↔ Q x) → (xs : List B) → Some P (map f xs) ↔ Some Q xs
  some_map f Q h xs = (
    λ s. let m = Memᴰ.of_map f xs s.1 in (m.0, m.1, (h m.0).0 (subst P (sym m.2) s.2)),
    λ s. (f s.0, Memᴰ.map f s.1, (h s.0).1 s.2),
  )

  pub some_distinct : (same : Discrete A) (xs : List A) → Some P (distinct same xs) ↔ Some P xs
  some_distinct same xs =
      (λ s. (s.0, distinct_of same xs s.0 s.1, s.2), λ s. (s.0, to_distinct same xs s.0 s.1, s.2))
