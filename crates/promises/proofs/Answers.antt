-- The answers as the calls return them: which never come, and that two that meet a contract are the same. Leans on `Once`, where it is said of
-- their numbers, and on `Stated`: the numbers tell the answers apart.
use Prim.Native.Nat.{ℕ, ◌<◌}
use native.Mathlib.Omega.{arith}
use mathlib.Core.Path.{◌≡◌, refl, sym, ap, ◌∙◌}
use mathlib.Core.Bool.{cond}
use lib.Dec.{eqb}
use Rattle.std.specs.Prelude.{Result}
use Rattle.theory.specs.Refusal.{success}
use Rattle.theory.specs.Stated.{number, refusal_in}
use Rattle.theory.specs.declared.refusal.Cause.{Cause}
use Rattle.theory.specs.declared.refusal.Refusal.{Refusal as Refused}
use Rattle.theory.specs.Table.{Table, tree}
use Rattle.theory.specs.Grammar.{Text}
use Rattle.theory.specs.Read.{Read, Entered, entered}
use Rattle.theory.specs.Build.{Lent, Counts, Built}
use Rattle.theory.specs.Judge.{Judgement}
use Rattle.theory.proofs.Rows.Trees.{entries_positive}
use Rattle.theory.proofs.Expressed.{expressed}
use Rattle.theory.proofs.Answers.{counts_built}
use Rattle.theory.proofs.Stated.{number_some, told_once}
use Rattle.theory.proofs.States.{states_some}
use Rattle.reader.specs.Answer as reader
use Rattle.builder.specs.Answer as builder
use Rattle.builder.specs.declared.Counts.{Counts as Told}
use Rattle.matcher.specs.Answer.{said, values}
use Rattle.matcher.specs.declared.Verdict.{Verdict}
use Rattle.matcher.specs.declared.Verdict.TheVariants.{Accepted, Unfinished, Wrong}
use Rattle.promises.specs.Answers.{NeverNone, AnswersOnce}
use Rattle.promises.proofs.Causes.Builder.{builder_number}
use Rattle.promises.proofs.Once.{read_once, build_once, judge_once}

-- ---- Which never come

cause_some : (c : Cause) → 0 < number c
cause_some c = let some = number_some c in omega arith

-- Where nothing is refused an entry was made.
entered_some : {text : Text} {t : Table} {a : Entered} {t' : Table} → Read text t a t' → a.refusal.number ≡ 0 → 0 < a.entries
entered_some h z =
    let x = expressed h.due (ap (λ (a : Entered). a.refusal.number) (sym h.answers) ∙ z) in
    let made = h.answers ∙ ap entered x.is in
    omega (arith, entries_positive x.expression, ap (λ (a : Entered). a.entries) made)

-- Where nothing is refused there is state 0.
counted_some : {g : Table} {c : Lent} {a : Counts} {c' : Lent} → Built g c a c' → a.refusal.number ≡ 0 → 0 < a.states
counted_some {g} {c} h z =
    let built = h.answers ∙ counts_built g c (sym (builder_number h) ∙ z) in
    omega (arith, states_some (tree g), ap (λ (a : Counts). a.states) built)

pub never_none : NeverNone
never_none = record { causes = cause_some; entries = λ h. entered_some h refl; states = λ n h. counted_some h refl }

-- ---- Two that meet a contract

checks_apart : (a b : Result Unit Refused) → refusal_in a ≡ refusal_in b → a ≡ b
checks_apart = told_once refusal_in (λ r. r) (λ _. tt) (λ v. refl) (λ r. refl) (λ v. refl)

reads_apart : (a b : Result ℕ Refused) → reader.answer a ≡ reader.answer b → a ≡ b
reads_apart = told_once reader.answer (λ x. x.refusal) (λ x. x.entries) (λ v. refl) (λ r. refl) (λ v. refl)

builds_apart : (a b : Result Told Refused) → builder.answer a ≡ builder.answer b → a ≡ b
builds_apart =
    told_once builder.answer (λ x. x.refusal) (λ x. record { states = x.states; expressions = x.expressions; arcs = x.arcs }) (λ v. refl)
    (λ r. refl) (λ v. refl)

-- The verdict's number tells the three apart.
verdict_of : Judgement → Verdict
verdict_of a = cond (eqb a.verdict 1) (Accepted a.live) (cond (eqb a.verdict 2) (Unfinished a.live) (Wrong a.place))

pub judges_apart : (a b : Result Verdict Refused) → values a ≡ values b → a ≡ b
unfolding verdict_of
judges_apart = told_once values (λ x. x.refusal) verdict_of fine (λ r. refl) back
  where
    fine : (v : Verdict) → (said v).refusal ≡ success
    fine (Accepted n) = refl
    fine (Unfinished n) = refl
    fine (Wrong p) = refl

    back : (v : Verdict) → verdict_of (said v) ≡ v
    back (Accepted n) = refl
    back (Unfinished n) = refl
    back (Wrong p) = refl

pub answers_once : AnswersOnce
answers_once = record {
  checks = λ g a b h k. checks_apart a b (h ∙ sym k);
  reads = λ a b h k. reads_apart a b (read_once.once h k).0;
  builds = λ a b h k. builds_apart a b (build_once.once h k).answers;
  judges = λ a b h k. judges_apart a b (judge_once.once h k).0;
}
