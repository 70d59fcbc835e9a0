-- 01, "What every promise has to say", of the answers as the calls return them, and not only of their numbers: some never come, and two
-- that meet a contract are the same.
use Rattle.std.specs.Prelude.{ℕ, ◌<◌, ◌≡◌, Result, Ok}
use Rattle.theory.specs.Language.{Word}
use Rattle.theory.specs.Table.{Table, table_refusal}
use Rattle.theory.specs.Grammar.{Text}
use Rattle.theory.specs.Read.{Read}
use Rattle.theory.specs.Build.{Lent, Built}
use Rattle.theory.specs.Record.{Handed, Work}
use Rattle.theory.specs.Judge.{Judged}
use Rattle.theory.specs.Stated.{number, refusal_in}
use Rattle.theory.specs.declared.refusal.Cause.{Cause}
use Rattle.theory.specs.declared.refusal.Refusal.{Refusal}
use Rattle.reader.specs.Answer as reader
use Rattle.builder.specs.Answer as builder
use Rattle.builder.specs.declared.Counts.{Counts}
use Rattle.matcher.specs.Answer as matcher
use Rattle.matcher.specs.declared.Verdict.{Verdict}

-- No call answers a refusal with number 0: no cause has it. No text is read as no entry; no table is built as no state.
pub record NeverNone : Type 0 where
  pub causes : (c : Cause) → 0 < number c
  pub entries : {text : Text} {t : Table} {n : ℕ} {t' : Table} → Read text t (reader.answer (Ok n)) t' → 0 < n
  pub states : {g : Table} {c : Lent} (n : Counts) {c' : Lent} → Built g c (builder.answer (Ok n)) c' → 0 < n.states

pub record AnswersOnce : Type 0 where
  pub checks : (g : Table) (a b : Result Unit Refusal) → refusal_in a ≡ table_refusal g → refusal_in b ≡ table_refusal g → a ≡ b
  pub reads : {text : Text} {t : Table} (a b : Result ℕ Refusal) {t' t'' : Table} → Read text t (reader.answer a) t'
      → Read text t (reader.answer b) t'' → a ≡ b
  pub builds : {g : Table} {c : Lent} (a b : Result Counts Refusal) {d d' : Lent} → Built g c (builder.answer a) d
      → Built g c (builder.answer b) d' → a ≡ b
  pub judges : {h : Handed} {w : Word} {k : Work} (a b : Result Verdict Refusal) {k' k'' : Work} → Judged h w k (matcher.values a) k'
      → Judged h w k (matcher.values b) k'' → a ≡ b
