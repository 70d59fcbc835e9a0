-- The letter's first demand: "A bad table, a bad text or too little room gets the numbered refusal of document 01, everything lent for
-- writing is then zero, and no call is refused without that number's cause." The causes are those of `specs/`. Each number is below 16, which is
-- the records program's own.
use Rattle.std.specs.Prelude.{◌≡◌, Result}
use Rattle.theory.specs.Language.{Word}
use Rattle.theory.specs.Table.{Table, table_refusal}
use Rattle.theory.specs.Grammar.{Text}
use Rattle.theory.specs.Read.{Read, Entered}
use Rattle.theory.specs.Build.{Lent, Counts, Built}
use Rattle.theory.specs.Record.{Handed, Work}
use Rattle.theory.specs.Judge.{Judgement, Judged}
use Rattle.theory.specs.Stated.{refusal_in}
use Rattle.theory.specs.declared.refusal.Refusal.{Refusal}
use Rattle.promises.specs.Table.{TableMeets}
use Rattle.promises.specs.Reader.{ReaderMeets}
use Rattle.promises.specs.Builder.{BuilderMeets}
use Rattle.promises.specs.Matcher.{MatcherMeets}
use Rattle.theory.specs.Report.{Report}
use Rattle.site.specs.Site.{Shown, Made}
use Rattle.site.specs.Sited.{JudgesText}
use Rattle.promises.specs.Site.{SiteMeets, TextMeets}

-- Whoever meets the contract of a call meets the demand.
pub record DemandOne : Type 0 where
  pub checks : (g : Table) (answer : Result Unit Refusal) → refusal_in answer ≡ table_refusal g → TableMeets g answer
  pub reads : {text : Text} {t : Table} {answer : Entered} {t' : Table} → Read text t answer t' → ReaderMeets text t answer t'
  pub builds : {g : Table} {c : Lent} {answer : Counts} {c' : Lent} → Built g c answer c' → BuilderMeets g c answer c'
  pub judges : {h : Handed} {w : Word} {k : Work} {answer : Judgement} {k' : Work} → Judged h w k answer k' → MatcherMeets h k answer k'
  pub sites : {text : Text} {s : Shown} {answer : Report} {s' : Shown} → Made text s answer s' → SiteMeets text s answer s'
  pub judges_text : {text : Text} {w : Word} {s : Shown} {k : Work} {answer : Judgement} {s' : Shown} {k' : Work}
      → JudgesText text w s k answer s' k' → TextMeets text s k answer s' k'
