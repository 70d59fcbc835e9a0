-- The leaves' steps of the derivative: the empty language, the empty word, a letter.
use Prim.Native.Nat.{ℕ}
use mathlib.Core.Logic.Iff
use mathlib.Core.Bool.{cond}
use mathlib.Core.List.{[], ◌∷◌, cons≢nil, cons-eq-cons}
use lib.Dec.{eqb}
use borrow.Author.Tests.{eqb-true, eq-eqb}
use Rattle.theory.specs.Expression.{∅, ε, letter}
use Rattle.theory.specs.Language.{In}
use Rattle.theory.proofs.Language.Some.{some_none, some_one, some_cond}
use Rattle.theory.proofs.Language.Step.{Derives}

pub ∅_step : (a : ℕ) → Derives a [] ∅
∅_step a = record { words = λ w. (some_none (λ m. In m w), absurd) }

pub ε_step : (a : ℕ) → Derives a [] ε
ε_step a = record { words = λ w. (λ s. absurd (some_none (λ m. In m w) s), λ e. absurd (cons≢nil e)) }

pub letter_step : (a b : ℕ) → Derives a (cond (eqb a b) (ε ∷ []) []) (letter b)
letter_step a b = record {
  words = λ w.
      Iff.trans (some_cond (λ m. In m w) (eqb a b) (ε ∷ []))
      (Iff.trans (Iff.and (eqb-true a b, eq-eqb a b) (some_one (λ m. In m w) ε)) (Iff.symm cons-eq-cons));
}
