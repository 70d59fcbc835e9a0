-- What the matcher's answer says of a record. Leans on `Verdicts` of the theory.
use Prim.Native.Nat.{ℕ}
use native.Mathlib.Omega.{arith}
use mathlib.Core.Path.{◌≡◌, refl, sym, ap, ◌∙◌, subst}
use mathlib.Core.Logic.Iff
use mathlib.Core.Logic.{◌↔◌}
use Rattle.theory.specs.Refusal.{Refusal}
use Rattle.theory.specs.Language.{Word}
use Rattle.theory.specs.Record.{Handed, Verdict, accepted, unfinished, wrong, verdict, live, WellFormedAutomaton}
use Rattle.theory.specs.Judge.{given}
use Rattle.theory.proofs.Answers.{judgement_given}
use Rattle.theory.proofs.MatcherRefusal.{not_refused}
use Rattle.theory.proofs.Verdicts.{verdict_says, live_says}
use Rattle.promises.specs.JudgesSo.{Tells, JudgesSo}
use Rattle.promises.proofs.Causes.Matcher.{matcher_answers}

-- ---- The verdict's number

module _ (n : ℕ) where
  pub given_accepted : (v : Verdict) → ((given v n).verdict ≡ 1) ↔ (v ≡ accepted)
  given_accepted accepted = (λ _. refl, λ _. refl)
  given_accepted unfinished = (λ z. absurd (omega arith), λ q. let z : ◌≡◌ {A = ℕ} 0 1 = cc in omega arith)
  given_accepted (wrong p) = (λ z. absurd (omega arith), λ q. let z : ◌≡◌ {A = ℕ} 0 1 = cc in omega arith)

  given_unfinished : (v : Verdict) → ((given v n).verdict ≡ 2) ↔ (v ≡ unfinished)
  given_unfinished accepted = (λ z. absurd (omega arith), λ q. let z : ◌≡◌ {A = ℕ} 0 1 = cc in omega arith)
  given_unfinished unfinished = (λ _. refl, λ _. refl)
  given_unfinished (wrong p) = (λ z. absurd (omega arith), λ q. let z : ◌≡◌ {A = ℕ} 0 1 = cc in omega arith)

  given_wrong : (p : ℕ) (v : Verdict) → (((given v n).verdict ≡ 3) × ((given v n).place ≡ p)) ↔ (v ≡ wrong p)
  given_wrong p accepted = (λ (z, _). absurd (omega arith), λ q. let z : ◌≡◌ {A = ℕ} 0 1 = cc in absurd (omega arith))
  given_wrong p unfinished = (λ (z, _). absurd (omega arith), λ q. let z : ◌≡◌ {A = ℕ} 0 1 = cc in absurd (omega arith))
  given_wrong p (wrong q) = (λ (_, e). ap wrong e, λ e. (refl, cc))

given_live : (v : Verdict) (n : ℕ) → (given v n).live ≡ n
given_live accepted n = refl
given_live unfinished n = refl
given_live (wrong p) n = refl

told : (h : Handed) (w : Word) → WellFormedAutomaton h → Tells h w (given (verdict h w) (live h w))
told h w good =
    let v = verdict h w in
    let n = live h w in
    record {
      accepted = Iff.trans (given_accepted n v) (verdict_says h w accepted);
      unfinished = Iff.trans (given_unfinished n v) (verdict_says h w unfinished);
      wrong = λ p. Iff.trans (given_wrong n p v) (verdict_says h w (wrong p));
      live = (live_says h good w (given v n).live).0 (sym (given_live v n));
    }

pub judges_so : JudgesSo
judges_so = record {
  tells = λ {h} {w} {k} j z.
      let due = sym (ap (λ (r : Refusal). r.number) (matcher_answers j)) ∙ z in
      subst (Tells h w) (sym (j.answers ∙ judgement_given h k w due)) (told h w (not_refused h k due).1);
}
