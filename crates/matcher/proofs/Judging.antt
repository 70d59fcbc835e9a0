-- From the refusal, or from the walk's answer, to the judgement; and what a walk starts from where nothing is refused.
use Prim.Native.Nat.{ℕ}
use native.Mathlib.Omega.{arith}
use mathlib.Core.Path.{◌≡◌, sym, ap, ◌∙◌}
use mathlib.Core.Bool.{Bool, ◌||◌}
use mathlib.Core.List.{List}
use lib.ListN.{length}
use lib.Dec.{eqb}
use Rattle.theory.specs.Language.{Word}
use Rattle.theory.specs.Refusal.{Refusal, success}
use Rattle.theory.specs.Stated.{stated}
use Rattle.theory.specs.declared.refusal.Refusal.{Refusal as CodeRefusal}
use Rattle.theory.specs.Arcs.{start}
use Rattle.theory.specs.Record.{Handed, Work, work, cleared, WellFormedAutomaton, verdict, live, matcher_refusal}
use Rattle.theory.specs.Judge.{Judgement, given, withheld, judgement}
use Rattle.theory.proofs.Answers.{judgement_given, judgement_refused}
use Rattle.theory.proofs.MatcherRefusal.{not_refused}
use Rattle.theory.proofs.Stated.{number_some}
use Rattle.sets.specs.Bits.{bit}
use Rattle.sets.proofs.Digits.{none_set}
use Rattle.matcher.specs.Moves.{Checked, Ready}

-- ---- The columns

-- Two cleared columns, and state 0 set in one.
pub ready : (k : Work) {blank : Work} {current : List ℕ} → blank ≡ cleared k → ((t : ℕ) → bit current t ≡ (bit blank.current t || eqb t 0))
    → Ready (work current blank.next)
unfolding start
ready k z e = record {
  started = λ t. e t ∙ ap (λ (b : Bool). b || eqb t 0) (none_set (length k.current) (ap (λ (b : Work). b.current) z) t);
  clear = none_set (length k.next) (ap (λ (b : Work). b.next) z);
}

-- ---- The automaton

module _ (h : Handed) (k : Work) (none : success ≡ matcher_refusal h k) where
  zero : (matcher_refusal h k).number ≡ 0
  zero = sym (ap (λ (r : Refusal). r.number) none)

  pub formed : WellFormedAutomaton h
  formed = (not_refused h k zero).1

  pub checked : Checked h.states h.arcs k
  checked =
      let (even, good, enough) = not_refused h k zero in
      let long = good.arcs_long in
      record {
        some_state = good.some_state;
        few_states = good.few_states;
        spans = record { from = long; letter = omega (arith, even.letter); to = omega (arith, even.to) };
        from_below = good.from_below;
        to_below = good.to_below;
        enough = enough;
      }

-- ---- The judgement

module _ (h : Handed) (k : Work) (w : Word) where
  pub judged_refused : (r : CodeRefusal) → stated r ≡ matcher_refusal h k → withheld (stated r) ≡ judgement h k w
  judged_refused r e =
      ap withheld e
      ∙ sym (judgement_refused h k w
      (λ q. number_some r.cause (ap (λ (s : Refusal). s.number) e ∙ q)))

  pub judged_given : success ≡ matcher_refusal h k → {answer : Judgement} → answer ≡ given (verdict h w) (live h w) → answer ≡ judgement h k w
  judged_given none a = a ∙ sym (judgement_given h k w (sym (ap (λ (r : Refusal). r.number) none)))
