-- What it takes that a refusal is given exactly where there is cause for it.
use mathlib.Core.Path.{◌≡◌, sym, ◌∙◌, subst}
use mathlib.Core.Logic.{◌↔◌}
use Rattle.theory.specs.Refusal.{Refusal}

-- The answer a that gives the refusal b gives it exactly where there is cause, if there is cause for b and for nothing else.
pub exactly : (Cause : Refusal → Type 0) {a b : Refusal} → a ≡ b → Cause b → ((r : Refusal) → Cause r → b ≡ r) → (r : Refusal) → (a ≡ r) ↔ Cause r
exactly Cause e c due r = (λ q. subst Cause (sym e ∙ q) c, λ d. e ∙ due r d)
