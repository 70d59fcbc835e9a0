-- `Derives a ms e`: the list ms is right for the derivative of e by a. What `distinct` and joining do to such a list; each operator's step
-- stands on this. What joining means is taken as given here, and handed in by the operators.
use Prim.Native.Nat.{ℕ}
use mathlib.Core.Logic.Iff
use mathlib.Core.Logic.{◌↔◌}
use mathlib.Core.List.{List, ◌∷◌, map}
use Rattle.theory.specs.Expression.{Expression, Sign, same}
use Rattle.theory.specs.Distinct.{distinct}
use Rattle.theory.specs.Language.{Word, In}
use Rattle.theory.specs.Derivative.{joined}
use Rattle.theory.proofs.Language.Some.{Some, some_map, some_distinct}
use Rattle.theory.proofs.Language.Together.{Together, together_iff, some_left, some_right}

-- w is in the language of a member of ms.
abbrev pub InSome : List Expression → Word → Type 0
InSome ms w = Some (λ m. In m w) ms

-- The words of the members of ms are the words w with aw in the language of e.
pub record Derives (a : ℕ) (ms : List Expression) (e : Expression) : Type 0 where
  pub words : (w : Word) → InSome ms w ↔ In e (a ∷ w)

pub distinct_step : {a : ℕ} {ms : List Expression} {e : Expression} → Derives a ms e → Derives a (distinct same ms) e
distinct_step {ms} d = record { words = λ w. Iff.trans (some_distinct (λ m. In m w) same ms) (d.words w) }

-- For a sign whose joining puts words together by R, the members of a derivative are joined on its own side.
module _ (s : Sign) (R : Word → Word → Word → Type 0)
    (joins : (x y : Expression) (w : Word) → In (joined s x y) w ↔ Together R (In x) (In y) w) where
  pub left_step : {a : ℕ} {ms : List Expression} {x : Expression} → Derives a ms x → (y : Expression) (w : Word)
      → InSome (map (λ m. joined s m y) ms) w ↔ Together R (λ u. In x (a ∷ u)) (In y) w
  left_step {ms} d y w =
      Iff.trans (some_map (λ m. In m w) (λ m. joined s m y) (λ m. Together R (In m) (In y) w) (λ m. joins m y w) ms)
      (Iff.trans (some_left R In (In y) ms w) (together_iff R w d.words (λ v. Iff.rfl)))

  pub right_step : {a : ℕ} {ms : List Expression} {y : Expression} → (x : Expression) → Derives a ms y → (w : Word)
      → InSome (map (λ m. joined s x m) ms) w ↔ Together R (In x) (λ v. In y (a ∷ v)) w
  right_step {ms} x d w =
      Iff.trans (some_map (λ m. In m w) (λ m. joined s x m) (λ m. Together R (In x) (In m) w) (λ m. joins x m w) ms)
      (Iff.trans (some_right R (In x) In ms w) (together_iff R w (λ u. Iff.rfl) d.words))
