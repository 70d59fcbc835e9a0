-- What is made of a sign has the sign's language, and joining with the literal empty word changes no language. Leans on `Derivative` for the
-- cases of a join.
use mathlib.Core.Path.{◌≡◌}
use mathlib.Core.Logic.Iff
use mathlib.Core.Logic.{◌↔◌}
use mathlib.Core.Bool.{true}
use Rattle.theory.specs.Expression.{Expression, pair, Sign, ε, binary}
use Rattle.theory.specs.Language.{Word, In}
use Rattle.theory.specs.Derivative.{has_unit, joined}
use Rattle.theory.proofs.Derivative.{joined_cases}

pub pair_in : (s : Sign) (x y : Expression) (w : Word) → In (pair s x y) w ↔ In (binary s x y) w
unfolding pair
pair_in s x y w = Iff.rfl

-- The empty word is a unit of the sign s on either side.
pub record Unital (s : Sign) : Type 0 where
  pub right : (x : Expression) (w : Word) → In (binary s x ε) w ↔ In x w
  pub left : (y : Expression) (w : Word) → In (binary s ε y) w ↔ In y w

pub joined_in : (s : Sign) → (has_unit s ≡ true → Unital s) → (x y : Expression) (w : Word) → In (joined s x y) w ↔ In (binary s x y) w
joined_in s unital x y w =
    joined_cases s (λ x y z. In z w ↔ In (binary s x y) w) (λ h x. Iff.symm ((unital h).right x w)) (λ h y. Iff.symm ((unital h).left y w))
    (λ x y. pair_in s x y w) x y
