-- Star: the empty word is in it, what a first byte says of it, and its step of the derivative. Leans on the laws of concatenation.
use Prim.Native.Nat.{ℕ}
use mathlib.Core.Path.{◌≡◌, refl, sym, ap, ◌∙◌, subst}
use mathlib.Core.Logic.Iff
use mathlib.Core.Logic.{◌↔◌, ⊎_elim}
use mathlib.Core.List.{List, [], ◌∷◌, ◌++◌, map, flatten, cons≢nil}
use Rattle.theory.specs.Expression.{Expression, star, concatenation}
use Rattle.theory.specs.Language.{Word, Each, In}
use Rattle.theory.specs.Derivative.{joined}
use Rattle.theory.proofs.Language.Together.{Together}
use Rattle.theory.proofs.Language.Joined.{joined_in}
use Rattle.theory.proofs.Language.Step.{Derives, left_step}
use Rattle.theory.proofs.Language.Concatenation.{Appended, appended_cons, concatenation_unital}

pub star_nil : (x : Expression) → In (star x) []
unfolding flatten
star_nil x = ([], tt, refl)

-- A first byte begins the first word of x that is not empty.
pub star_cons : (a : ℕ) (x : Expression) (w : Word) → In (star x) (a ∷ w) ↔ Together Appended (λ u. In x (a ∷ u)) (In (star x)) w
unfolding flatten
star_cons a x w = (
  λ s. begun s.0 s.1 s.2,
  λ t. let s = t.3 in ((a ∷ t.0) ∷ s.0, (t.2, s.1), ap (λ r. a ∷ r) (t.4 ∙ ap (λ r. t.0 ++ r) s.2)),
)
  where
    begun : (ws : List Word) → Each (In x) ws → a ∷ w ≡ flatten ws → Together Appended (λ u. In x (a ∷ u)) (In (star x)) w
    begun [] h e = absurd (cons≢nil e)
    begun (u ∷ ws) h e =
        ⊎_elim (λ l. (l.0, flatten ws, subst (In x) l.1 h.0, (ws, h.1, refl), l.2)) (λ r. begun ws h.1 (sym r.1))
        (appended_cons a u (flatten ws) w e)

pub star_step : {a : ℕ} {x : Expression} {xs : List Expression} → Derives a xs x → Derives a (map (λ m. joined concatenation m (star x)) xs) (star x)
star_step {a} {x} d = record {
  words = λ w.
      Iff.trans (left_step concatenation Appended (joined_in concatenation (λ h. concatenation_unital)) d (star x) w) (Iff.symm (star_cons a x w));
}
