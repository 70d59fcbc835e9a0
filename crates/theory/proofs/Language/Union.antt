-- Union: its answer for the empty word and its step of the derivative.
use Prim.Native.Nat.{ℕ}
use mathlib.Core.Path.{◌≡◌, refl}
use mathlib.Core.Logic.Iff
use mathlib.Core.Logic.{◌↔◌, ◌⊎◌, inl, inr, ⊎_elim}
use mathlib.Core.Bool.{Bool, true, false, ◌||◌, false≢true}
use mathlib.Core.List.{List, ◌++◌}
use Rattle.theory.specs.Expression.{Expression, binary, union}
use Rattle.theory.specs.Language.{In}
use Rattle.theory.proofs.Language.Some.{⊎_iff, some_append}
use Rattle.theory.proofs.Language.Step.{Derives}

-- The library's law of _||_ has the truncated sum.
pub or_true_iff : (b c : Bool) → ((b || c) ≡ true) ↔ ((b ≡ true) ⊎ (c ≡ true))
or_true_iff true c = (λ e. inl refl, λ s. refl)
or_true_iff false c = (inr, ⊎_elim (λ e. absurd (false≢true e)) (λ e. e))

pub union_step : {a : ℕ} {x y : Expression} {xs ys : List Expression} → Derives a xs x → Derives a ys y → Derives a (xs ++ ys) (binary union x y)
union_step {xs} {ys} dx dy = record { words = λ w. Iff.trans (some_append (λ m. In m w) xs ys) (⊎_iff (dx.words w) (dy.words w)) }
