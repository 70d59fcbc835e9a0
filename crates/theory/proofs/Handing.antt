-- The automaton of an expression, in columns with zero beyond it, handed to the matcher: it is not refused, and a record is accepted exactly when
-- it is a word of the language. Leans on `Filled` and on the matcher's refusals.
use Prim.Native.Nat.{ℕ, ◌≤◌}
use native.Mathlib.Omega.{arith}
use mathlib.Core.Path.{◌≡◌, refl, sym, ap, ap₂, ◌∙◌, subst}
use mathlib.Core.Logic.Iff
use mathlib.Core.Logic.{◌↔◌}
use lib.ListN.{length}
use Rattle.theory.specs.Expression.{Expression}
use Rattle.theory.specs.Limit.{most_states, most_arcs}
use Rattle.theory.specs.Refusal.{Refusal, success}
use Rattle.theory.specs.Language.{Word, In}
use Rattle.theory.specs.Automaton.{states, arcs}
use Rattle.theory.specs.Arcs.{ArcColumns, EvenArcs}
use Rattle.theory.specs.Record.{automaton, Work, LongEnough, Verdict, accepted, unfinished, wrong, verdict, live, matcher_refusal}
use Rattle.theory.specs.Judge.{Judgement, Judged, given}
use Rattle.theory.proofs.Answers.{judgement_given}
use Rattle.theory.proofs.Arcs.{even_arcs_iff}
use Rattle.theory.proofs.Accepts.{accepted_language, verdict_own, live_own, automaton_is}
use Rattle.theory.proofs.Filled.{filled_even, filled_up, filled_well_formed, filled_is}
use Rattle.theory.proofs.MatcherRefusal.{well_formed_iff, short_iff, refusal_by}
use Rattle.theory.proofs.Verdicts.{verdict_says}
use Rattle.theory.proofs.WellFormed.{Lettered}

-- The first verdict is the only one that is numbered 1.
pub given_one : (v : Verdict) (n : ℕ) → ((given v n).verdict ≡ 1) ↔ (v ≡ accepted)
given_one accepted n = (λ _. refl, λ _. refl)
given_one unfinished n = (λ z. absurd (omega arith), λ q. let z : ◌≡◌ {A = ℕ} 0 1 = cc in omega arith)
given_one (wrong p) n = (λ z. absurd (omega arith), λ q. let z : ◌≡◌ {A = ℕ} 0 1 = cc in omega arith)

-- No verdict is numbered 0.
pub given_some : (v : Verdict) (n : ℕ) → 0 ≡ (given v n).verdict → ⊥
given_some accepted n z = omega arith
given_some unfinished n z = omega arith
given_some (wrong p) n z = omega arith

module _ (e : Expression) (n : ℕ) (c : ArcColumns) (few_states : length (states e) ≤ most_states) (few_arcs : length (arcs e) ≤ most_arcs)
    (even : EvenArcs c) (room : length (arcs e) ≤ length c.from) {k : Work} (long : LongEnough k (length (states e))) where
  pub never_refused : matcher_refusal (filled_up e n c) k ≡ success
  never_refused =
      refusal_by (filled_up e n c) k ((even_arcs_iff _).1 (filled_even c (arcs e) even room))
      ((well_formed_iff (filled_up e n c)).1 (filled_well_formed e n c few_states few_arcs)) ((short_iff k (length (states e))).1 long)

  module _ {w : Word} {answer : Judgement} {k' : Work} (j : Judged (filled_up e n c) w k answer k') where
    -- The answer is that of the expression's own automaton.
    pub judged_so : answer ≡ given (verdict (automaton e) w) (live (automaton e) w)
    judged_so =
        j.answers ∙ judgement_given (filled_up e n c) k w (ap (λ (r : Refusal). r.number) never_refused)
        ∙ ap₂ given (verdict_own (filled_is e n c) (automaton_is e) w) (live_own (filled_is e n c) (automaton_is e) w)

    pub accepted_exactly : Lettered e → (answer.verdict ≡ 1) ↔ In e w
    accepted_exactly good =
        subst (λ (x : Judgement). (x.verdict ≡ 1) ↔ In e w) (sym judged_so)
        (Iff.trans (given_one (verdict (automaton e) w) (live (automaton e) w))
        (Iff.trans (verdict_says (automaton e) w accepted) (accepted_language (automaton_is e) good w)))
