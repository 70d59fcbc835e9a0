-- Shuffle: what the empty word and a first byte say of it, that the empty word is its unit, and its step of the derivative. Leans on the
-- laws of joining.
use Prim.Native.Nat.{ℕ}
use mathlib.Core.Path.{◌≡◌, refl, sym, ap, ◌∙◌, subst}
use mathlib.Core.Logic.Iff
use mathlib.Core.Logic.{◌↔◌, ◌⊎◌, inl, inr, ⊎_elim}
use mathlib.Core.List.{List, [], ◌∷◌, ◌++◌, map, nil≢cons, cons≢nil, head-eq_of_cons-eq, tail-eq_of_cons-eq}
use Rattle.theory.specs.Expression.{Expression, binary, shuffle}
use Rattle.theory.specs.Language.{Word, Shuffled, In}
use Rattle.theory.specs.Derivative.{joined}
use Rattle.theory.proofs.Language.Some.{⊎_iff, some_append}
use Rattle.theory.proofs.Language.Together.{Together, together_unit_left, together_unit_right}
use Rattle.theory.proofs.Language.Joined.{Unital, joined_in}
use Rattle.theory.proofs.Language.Step.{Derives, left_step, right_step}

pub shuffled_nil_right : (x z : Word) → Shuffled x [] z ↔ (z ≡ x)
shuffled_nil_right x z = Iff.rfl

pub shuffled_nil_left : (y z : Word) → Shuffled [] y z ↔ (z ≡ y)
shuffled_nil_left [] z = Iff.rfl
shuffled_nil_left (b ∷ y) z = Iff.rfl

pub shuffled_nil : (u v : Word) → Shuffled u v [] ↔ ((u ≡ []) × (v ≡ []))
shuffled_nil u [] = (λ e. (sym e, refl), λ e. sym e.0)
shuffled_nil [] (b ∷ y) = (λ e. (refl, sym e), λ e. sym e.1)
shuffled_nil (a ∷ x) (b ∷ y) = (λ s. absurd s, λ e. cons≢nil e.0)

-- The first byte is u's or v's.
pub shuffled_cons : (a : ℕ) (u v w : Word)
    → Shuffled u v (a ∷ w) ↔ (((u' : Word) × (u ≡ a ∷ u') × Shuffled u' v w) ⊎ ((v' : Word) × (v ≡ a ∷ v') × Shuffled u v' w))
shuffled_cons a u [] w = (
  λ e. inl (w, sym e, refl),
  ⊎_elim (λ l. ap (λ t. a ∷ t) l.2 ∙ sym l.1) (λ r. absurd (nil≢cons r.1)),
)
shuffled_cons a [] (b ∷ y) w = (
  λ e. inr (w, sym e, (shuffled_nil_left w w).1 refl),
  ⊎_elim (λ l. absurd (nil≢cons l.1)) (λ r. ap (λ t. a ∷ t) ((shuffled_nil_left r.0 w).0 r.2) ∙ sym r.1),
)
shuffled_cons a (c ∷ x) (b ∷ y) w = (
  ⊎_elim (λ l. inl (x, ap (λ d. d ∷ x) (sym l.0), l.1)) (λ r. inr (y, ap (λ d. d ∷ y) (sym r.0), r.1)),
  ⊎_elim (λ l. inl (sym (head-eq_of_cons-eq l.1), subst (λ t. Shuffled t (b ∷ y) w) (sym (tail-eq_of_cons-eq l.1)) l.2))
      (λ r. inr (sym (head-eq_of_cons-eq r.1), subst (λ t. Shuffled (c ∷ x) t w) (sym (tail-eq_of_cons-eq r.1)) r.2)),
)

pub shuffle_cons : (P Q : Word → Type 0) (a : ℕ) (w : Word)
    → Together Shuffled P Q (a ∷ w) ↔ (Together Shuffled (λ u. P (a ∷ u)) Q w ⊎ Together Shuffled P (λ v. Q (a ∷ v)) w)
shuffle_cons P Q a w = (
  λ t. ⊎_elim (λ l. inl (l.0, t.1, subst P l.1 t.2, t.3, l.2)) (λ r. inr (t.0, r.0, t.2, subst Q r.1 t.3, r.2))
      ((shuffled_cons a t.0 t.1 w).0 t.4),
  ⊎_elim (λ l. (a ∷ l.0, l.1, l.2, l.3, (shuffled_cons a (a ∷ l.0) l.1 w).1 (inl (l.0, refl, l.4))))
      (λ r. (r.0, a ∷ r.1, r.2, r.3, (shuffled_cons a r.0 (a ∷ r.1) w).1 (inr (r.1, refl, r.4)))),
)

pub shuffle_unital : Unital shuffle
shuffle_unital =
    record {
      right = λ x w. together_unit_right Shuffled (In x) w (λ u. shuffled_nil_right u w);
      left = λ y w. together_unit_left Shuffled (In y) w (λ v. shuffled_nil_left v w);
    }

pub shuffle_step : {a : ℕ} {x y : Expression} {xs ys : List Expression} → Derives a xs x → Derives a ys y
    → Derives a (map (λ m. joined shuffle m y) xs ++ map (λ m. joined shuffle x m) ys) (binary shuffle x y)
shuffle_step {a} {x} {y} {xs} {ys} dx dy = record {
  words = λ w.
      Iff.trans (some_append (λ m. In m w) (map (λ m. joined shuffle m y) xs) (map (λ m. joined shuffle x m) ys))
      (Iff.trans
      (⊎_iff (left_step shuffle Shuffled (joined_in shuffle (λ h. shuffle_unital)) dx y w)
      (right_step shuffle Shuffled (joined_in shuffle (λ h. shuffle_unital)) x dy w))
      (Iff.symm (shuffle_cons (In x) (In y) a w)));
}
