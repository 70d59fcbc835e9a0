-- Where a refusal can stand, and the counts of a refusal, which are zero: as many as there are.
use Prim.Native.Nat.{ℕ, suc, ◌-◌, ◌≤◌, ◌<◌}
use native.Mathlib.Decide.{ℕ_discrete}
use native.Mathlib.Omega.{arith}
use mathlib.Core.Path.{◌≡◌, ap, ◌∙◌}
use mathlib.Core.List.{[], ◌∷◌}
use Rattle.std.specs.Prelude.{Err}
use Rattle.theory.specs.Column.{zeros, filled}
use Rattle.theory.specs.Table.{Table}
use Rattle.theory.specs.Grammar.{Text}
use Rattle.theory.specs.Language.{Word}
use Rattle.theory.specs.Read.{Entered, Read}
use Rattle.theory.specs.Build.{Lent, Counts, Built, build_refusal}
use Rattle.theory.specs.Record.{Handed, Work, verdict, live, matcher_refusal}
use Rattle.theory.specs.Judge.{Judgement, Judged}
use Rattle.theory.specs.declared.refusal.Refusal.{Refusal}
use Rattle.theory.proofs.Answers.{counts_built, counts_refused, judgement_given, judgement_refused}
use Rattle.theory.proofs.Handing.{given_some}
use Rattle.theory.proofs.MatcherRefusal.{place_zero}
use Rattle.theory.proofs.Places.{reader_place, builder_place}
use Rattle.reader.specs.Answer.{answer as entered_of}
use Rattle.builder.specs.Answer.{answer as counts_of}
use Rattle.matcher.specs.Answer.{values}

pub no_counts : (n : ℕ) → 4 ≤ n → zeros n ≡ filled n (0 ∷ 0 ∷ 0 ∷ [])
no_counts n l = ap zeros (let k : n ≡ suc (suc (suc (n - 3))) = omega arith in k)

module _ {text : Text} {t t' : Table} (r : Refusal) where
  pub reads_place : Read text t (entered_of (Err r)) t' → r.place < 4294967296
  reads_place h = let l = reader_place h.due in omega (arith, ap (λ (a : Entered). a.refusal.place) h.answers)

module _ {g : Table} {c c' : Lent} (r : Refusal) where
  pub builds_place : Built g c (counts_of (Err r)) c' → r.place < 4294967296
  builds_place h = go (ℕ_discrete (build_refusal g c).number 0)
    where
      go : Dec ((build_refusal g c).number ≡ 0) → r.place < 4294967296
      go (yes z) = omega (arith, ap (λ (a : Counts). a.refusal.place) (h.answers ∙ counts_built g c z))
      go (no n) = let l = builder_place g c in omega (arith, ap (λ (a : Counts). a.refusal.place) (h.answers ∙ counts_refused g c n))

-- What is told of a refusal is no verdict, and the matcher's refusals have place 0.
module _ {h : Handed} {w : Word} {k k' : Work} (r : Refusal) where
  pub judges_place : Judged h w k (values (Err r)) k' → r.place < 4294967296
  judges_place j = go (ℕ_discrete (matcher_refusal h k).number 0)
    where
      go : Dec ((matcher_refusal h k).number ≡ 0) → r.place < 4294967296
      go (yes z) = absurd (given_some (verdict h w) (live h w) (ap (λ (a : Judgement). a.verdict) (j.answers ∙ judgement_given h k w z)))
      go (no n) = omega (arith, place_zero h k, ap (λ (a : Judgement). a.refusal.place) (j.answers ∙ judgement_refused h k w n))
