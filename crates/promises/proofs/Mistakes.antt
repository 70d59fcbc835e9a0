-- 01's mistakes are none of ours. Computed: the table as it stands, the two words by the automaton, which `accepts_language` ties to 004's
-- language.
use native.Mathlib.Omega.{arith}
use mathlib.Core.Path.{◌≡◌, refl, sym, ◌∙◌}
use mathlib.Core.Bool.{true, false, false≢true}
use mathlib.Core.List.Memᴰ
use mathlib.Core.Logic.{⊎_elim}
use Rattle.theory.specs.Expression.{letters}
use Rattle.theory.specs.Language.{Word, In}
use Rattle.theory.specs.Record.{automaton, accepts}
use Rattle.theory.proofs.WellFormed.{Lettered}
use Rattle.theory.proofs.Accepts.{accepts_language}
use Rattle.promises.specs.Examples.{all_hold}
use Rattle.promises.specs.Printed.{two_pairs}
use Rattle.promises.specs.Mistakes.{mistakes, MistakesShutOut, Mixed}

pub mistakes_shut_out : MistakesShutOut
unfolding all_hold mistakes
mistakes_shut_out = record { all = tt }

two_lettered : Lettered two_pairs
unfolding letters
two_lettered a m =
    ⊎_elim (λ e. omega arith)
    (λ n. ⊎_elim (λ e. omega arith) (λ n. ⊎_elim (λ e. omega arith) (λ n. ⊎_elim (λ e. omega arith) (λ n. absurd (Memᴰ.not-nil n))
    (Memᴰ.cases_cons n)) (Memᴰ.cases_cons n)) (Memᴰ.cases_cons n)) (Memᴰ.cases_cons m)

inside : (w : Word) → accepts (automaton two_pairs) w ≡ true → In two_pairs w
inside w e = (accepts_language two_pairs two_lettered w).0 e

outside : (w : Word) → accepts (automaton two_pairs) w ≡ false → ¬ In two_pairs w
outside w e m = false≢true (sym e ∙ (accepts_language two_pairs two_lettered w).1 m)

pub mixed : Mixed
unfolding automaton accepts
mixed = record { mix = inside _ refl; no_mix = outside _ refl }
