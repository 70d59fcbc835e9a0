-- The answers of `build` and `judge` where the call is refused, and where it is not.
use mathlib.Core.Path.{◌≡◌}
use lib.ListN.{length}
use borrow.Author.Tests.{eq-eqb, ne_eqb}
use Rattle.theory.specs.Refusal.{success}
use Rattle.theory.specs.Language.{Word}
use Rattle.theory.specs.Table.{Table, tree}
use Rattle.theory.specs.Automaton.{states, expressions, arcs}
use Rattle.theory.specs.Build.{Lent, counts, build_refusal}
use Rattle.theory.specs.Record.{Handed, Work, verdict, live, matcher_refusal}
use Rattle.theory.specs.Judge.{judgement, given, withheld}

module _ (g : Table) (c : Lent) where
  pub counts_built : (build_refusal g c).number ≡ 0
      → counts g c
      ≡ record { refusal = success; states = length (states (tree g)); expressions = length (expressions (tree g)); arcs = length (arcs (tree g)) }
  unfolding counts
  counts_built z = rw (counts, eq-eqb (build_refusal g c).number 0 z)

  pub counts_refused : ((build_refusal g c).number ≡ 0 → ⊥) → counts g c ≡ record { refusal = build_refusal g c; states = 0; expressions = 0; arcs = 0 }
  unfolding counts
  counts_refused n = rw (counts, ne_eqb (build_refusal g c).number 0 n)

module _ (h : Handed) (k : Work) (w : Word) where
  pub judgement_given : (matcher_refusal h k).number ≡ 0 → judgement h k w ≡ given (verdict h w) (live h w)
  unfolding judgement
  judgement_given z = rw (judgement, eq-eqb (matcher_refusal h k).number 0 z)

  pub judgement_refused : ((matcher_refusal h k).number ≡ 0 → ⊥) → judgement h k w ≡ withheld (matcher_refusal h k)
  unfolding judgement
  judgement_refused n = rw (judgement, ne_eqb (matcher_refusal h k).number 0 n)
