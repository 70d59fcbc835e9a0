-- The letters gathered from a table are those of its tree.
use Prim.Native.Nat.{ℕ}
use mathlib.Core.Path.{sym, ap₂, ◌∙◌}
use mathlib.Core.Bool.{◌&&◌, true≢false}
use mathlib.Core.List.{List}
use lib.ListN.{length, get_or}
use lib.Dec.{eqb}
use borrow.Author.Tests.{eq-eqb}
use Rattle.theory.specs.Kind as Kind
use Rattle.theory.specs.Table.{table, tree}
use Rattle.theory.proofs.Below.{some_at}
use Rattle.theory.proofs.Used.{letters_entered}
use Rattle.builder.specs.Letters.{uses, Gathers}
use Rattle.builder.specs.declared.letters.Letters.{Letters}
use Rattle.builder.specs.Progress.{Knows}

pub gathered_knows : (kind left right : List ℕ) (letters : Letters) → Gathers kind left letters → Knows letters (tree (table kind left right))
unfolding uses
gathered_knows kind left right letters h a l q m =
    let (i, below, is_letter, is_a) = letters_entered (table kind left right) a m in
    true≢false
    (sym (some_at (length kind) (λ j. eqb (get_or kind j 0) Kind.letter && eqb (get_or left j 0) a) i below
    (ap₂ ◌&&◌ (eq-eqb (get_or kind i 0) Kind.letter is_letter) (eq-eqb (get_or left i 0) a is_a)))
    ∙ sym (h a l) ∙ q)
