-- The three calls one after the other, from a text to the verdict on a record.
use Rattle.std.specs.Prelude.{◌≡◌, ◌↔◌}
use Rattle.theory.specs.Expression.{Expression}
use Rattle.theory.specs.Language.{Word, In}
use Rattle.theory.specs.Table.{Table}
use Rattle.theory.specs.Grammar.{Text, written, Writable}
use Rattle.theory.specs.Read.{Read, Entered, filled_part}
use Rattle.theory.specs.Build.{Lent, Counts, Built}
use Rattle.theory.specs.Record.{Work}
use Rattle.theory.specs.Judge.{Judgement, Judged}
use Rattle.promises.specs.Matcher.{TooShort, after_build}

-- A text is read, the table that it gives is built, and the record w is judged over what was built, with enough words lent; nothing is refused.
pub record Run (text : Text) (w : Word) (answer : Judgement) : Type 0 where
  pub lent_entries : Table
  pub entries : Table
  pub entered : Entered
  pub reads : Read text lent_entries entered entries
  pub read : entered.refusal.number ≡ 0
  pub lent : Lent
  pub tables : Lent
  pub counts : Counts
  pub builds : Built (filled_part entered entries) lent counts tables
  pub built : counts.refusal.number ≡ 0
  pub work : Work
  pub work_left : Work
  pub judges : Judged (after_build counts tables) w work answer work_left
  pub enough : ¬ TooShort work counts.states

-- The record is accepted exactly when it belongs to the language of the expression that the text writes.
pub record TextToVerdict : Type 0 where
  pub accepts : {text : Text} {w : Word} {answer : Judgement} → Run text w answer → (e : Expression) → Writable e → written e ≡ text
      → (answer.verdict ≡ 1) ↔ In e w
