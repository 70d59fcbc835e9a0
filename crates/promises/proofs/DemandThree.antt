-- The letter's third demand, by the bounds on the needs.
use Prim.Native.Nat.{ℕ, ◌+◌, ◌*◌, ◌^◌, ◌≤◌}
use native.Mathlib.Nat.{le_trans, mul-le-mul, pow-le-pow_right}
use native.Mathlib.Omega.{arith}
use mathlib.Core.Path.{◌≡◌, ◌∙◌, subst}
use lib.ListN.{length}
use Rattle.theory.specs.Refusal.{success}
use Rattle.theory.specs.Expression.{entries, letters}
use Rattle.theory.specs.Limit.{most_states, most_arcs}
use Rattle.theory.specs.Table.{Table, size, tree}
use Rattle.theory.specs.Build.{Lent, Counts, Built, OverRoom, of_expressions, of_states, of_arcs}
use Rattle.theory.proofs.WellFormed.{tree_entries, tree_letters}
use Rattle.theory.proofs.Bounds.{states_bound, expressions_bound, arcs_bound}
use Rattle.promises.specs.Table.{WellFormed}
use Rattle.promises.specs.Builder.{none}
use Rattle.promises.proofs.Tested.{table_is}
use Rattle.promises.proofs.Causes.Builder.{builder_due, builder_answers}
use Rattle.promises.specs.DemandThree.{letter_entries, Needs, Roomy, DemandThree}

needed : (g : Table) → WellFormed g → Needs g (size g) (letter_entries g)
needed g w =
    let v = (table_is g).1 w in
    subst (λ (m : ℕ). Needs g (size g) m) (tree_letters v) (subst (λ (n : ℕ). Needs g n (length (letters (tree g)))) (tree_entries v) bounds)
  where
    bounds : Needs g (entries (tree g)) (length (letters (tree g)))
    bounds = record { states = states_bound (tree g); expressions = expressions_bound (tree g); arcs = arcs_bound (tree g) }

-- 2^10 and 10 times 4^10 are below the caps.
states_cap : (m : ℕ) → m ≤ 10 → 2 ^ m ≤ most_states
states_cap m l = le_trans (pow-le-pow_right (omega arith) l) (omega arith)

arcs_cap : (m : ℕ) → m ≤ 10 → m * 4 ^ m ≤ most_arcs
arcs_cap m l = le_trans (mul-le-mul l (pow-le-pow_right (omega arith) l)) (omega arith)

built : {g : Table} {c : Lent} {answer : Counts} {c' : Lent} → WellFormed g
    → letter_entries g ≤ 10 → size g * 2 ^ letter_entries g + 1 ≤ 65535 → Roomy c (size g) (letter_entries g)
    → Built g c answer c' → answer.refusal ≡ success
built {g} {c} {answer} w few small r h =
    builder_answers h ∙ builder_due g c (none r.even w fits)
  where
    fits : ¬ OverRoom (tree g) c
    fits (of_expressions l) = let n = (needed g w).expressions in let b = r.expressions in omega arith
    fits (of_states l) = let n = (needed g w).states in let b = r.states in let k = states_cap (letter_entries g) few in omega arith
    fits (of_arcs l) = let n = (needed g w).arcs in let b = r.arcs in let k = arcs_cap (letter_entries g) few in omega arith

pub demand_three : DemandThree
demand_three = record { needs = needed; builds = built }
