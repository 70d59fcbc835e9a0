-- Concatenation: what the empty word and a first byte say of it, that the empty word is its unit, and its step of the derivative.
-- Leans on the laws of joining.
use Prim.Native.Nat.{ℕ}
use mathlib.Core.Path.{◌≡◌, refl, sym, ap, ◌∙◌, subst}
use mathlib.Core.Logic.Iff
use mathlib.Core.Logic.{◌↔◌, ◌⊎◌, inl, inr, ⊎_elim}
use mathlib.Core.Bool.{Bool, true, cond}
use mathlib.Core.List.{List, [], ◌∷◌, ◌++◌, map, append-nil, append-eq-nil_iff, head-eq_of_cons-eq, tail-eq_of_cons-eq}
use Rattle.theory.specs.Expression.{Expression, binary, concatenation}
use Rattle.theory.specs.Language.{Word, In}
use Rattle.theory.specs.Derivative.{joined}
use Rattle.theory.proofs.Language.Some.{⊎_iff, some_append, some_cond}
use Rattle.theory.proofs.Language.Together.{Together, together_unit_left, together_unit_right}
use Rattle.theory.proofs.Language.Joined.{Unital, joined_in}
use Rattle.theory.proofs.Language.Step.{Derives, left_step}

abbrev pub Appended : Word → Word → Word → Type 0
Appended u v w = w ≡ u ++ v

pub appended_nil_right : (u w : Word) → Appended u [] w ↔ (w ≡ u)
appended_nil_right u w = (λ e. e ∙ append-nil u, λ e. e ∙ sym (append-nil u))

pub appended_nil : (u v : Word) → Appended u v [] ↔ ((u ≡ []) × (v ≡ []))
appended_nil u v = (λ e. append-eq-nil_iff.0 (sym e), λ e. sym (append-eq-nil_iff.1 e))

-- The first byte is u's, or u is empty and it is v's.
pub appended_cons : (a : ℕ) (u v w : Word) → Appended u v (a ∷ w)
    → ((u' : Word) × (u ≡ a ∷ u') × Appended u' v w) ⊎ ((u ≡ []) × (v ≡ a ∷ w))
appended_cons a [] v w e = inr (refl, sym e)
appended_cons a (b ∷ u) v w e = inl (u, ap (λ c. c ∷ u) (sym (head-eq_of_cons-eq e)), tail-eq_of_cons-eq e)

pub concatenation_cons : (P Q : Word → Type 0) (a : ℕ) (w : Word)
    → Together Appended P Q (a ∷ w) ↔ (Together Appended (λ u. P (a ∷ u)) Q w ⊎ (P [] × Q (a ∷ w)))
concatenation_cons P Q a w = (
  λ t. ⊎_elim (λ l. inl (l.0, t.1, subst P l.1 t.2, t.3, l.2)) (λ r. inr (subst P r.0 t.2, subst Q r.1 t.3))
      (appended_cons a t.0 t.1 w t.4),
  ⊎_elim (λ l. (a ∷ l.0, l.1, l.2, l.3, ap (λ t. a ∷ t) l.4)) (λ r. ([], a ∷ w, r.0, r.1, refl)),
)

pub concatenation_unital : Unital concatenation
concatenation_unital =
    record {
      right = λ x w. together_unit_right Appended (In x) w (λ u. appended_nil_right u w);
      left = λ y w. together_unit_left Appended (In y) w (λ v. Iff.rfl);
    }

-- b answers whether the empty word is in the language of x.
pub concatenation_step : {a : ℕ} {x y : Expression} {xs ys : List Expression} (b : Bool) → (b ≡ true) ↔ In x [] → Derives a xs x → Derives a ys y
    → Derives a (map (λ m. joined concatenation m y) xs ++ cond b ys []) (binary concatenation x y)
concatenation_step {a} {x} {y} {xs} {ys} b h dx dy = record {
  words = λ w.
      Iff.trans (some_append (λ m. In m w) (map (λ m. joined concatenation m y) xs) (cond b ys []))
      (Iff.trans
      (⊎_iff (left_step concatenation Appended (joined_in concatenation (λ h. concatenation_unital)) dx y w)
      (Iff.trans (some_cond (λ m. In m w) b ys) (Iff.and h (dy.words w))))
      (Iff.symm (concatenation_cons (In x) (In y) a w)));
}
