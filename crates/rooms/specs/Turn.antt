-- What a turn of the report does: the next line is taken to its end, its report stands after what is left of those before it, and the totals are
-- those with one report more.
use Rattle.std.specs.Prelude.{ℕ, ◌+◌, ◌≤◌, ◌≡◌, List, [], ◌++◌, length, Option, None, Some, Result, Ok, Err}
use Rattle.theory.specs.Grammar.{Text}
use Rattle.theory.specs.Report.{Totals, report}
use Rattle.theory.specs.Lines.{report_line}
use Rattle.lines.specs.declared.failure.Failure.{Failure}
use Rattle.lines.specs.declared.failure.Failure.TheVariants.{Read, Write}
use Rattle.lines.specs.Input.{Input, Unbroken, Comes}
use Rattle.lines.specs.Output.{line_room}
use Rattle.lines.specs.Turn.{Left, Due}
use Rattle.site.specs.Totals.{values, with_report}
use Rattle.site.specs.declared.totals.Totals as declared

-- What `answer` owes.
pub record Answered (text : Text) (totals : Totals) (held : List ℕ) (totals' : declared.Totals) (held' : List ℕ) : Type 0 where
  pub put : held' ≡ held ++ report_line (report text)
  pub short : length held' ≤ length held + line_room
  pub adds : values totals' ≡ with_report totals (report text)

-- A line was taken, and answered.
pub record Answers (input : Input) (size : ℕ) (totals : Totals) (held : List ℕ) (text : Text) (totals' : declared.Totals) (input' : Input)
    (held' : List ℕ) : Type 0 where
  pub comes : Comes input text input'
  pub left : List ℕ
  pub leaves : Left input size held left
  pub answered : Answered text totals left totals' held'

-- Where the input ends or a read fails, nothing is untaken and nothing is left to be written. A write fails only where one is due, and then no
-- line is taken.
abbrev pub Turns : Input → (size : ℕ) → Totals → List ℕ → Result (Option declared.Totals) Failure → Input → List ℕ → Type 0
Turns input size totals held (Ok (Some totals')) input' held' = (text : Text) × Answers input size totals held text totals' input' held'
Turns input size totals held (Ok None) input' held' = (input.untaken ≡ []) × (input'.untaken ≡ []) × Left input size held [] × (held' ≡ [])
Turns input size totals held (Err Read) input' held' =
    Unbroken input.untaken × (input'.untaken ≡ []) × Left input size held [] × (held' ≡ [])
Turns input size totals held (Err Write) input' held' = Due input size held × (input' ≡ input) × (held' ≡ held)

-- What `answer_next` owes.
pub record Turned (input : Input) (size : ℕ) (totals : Totals) (held : List ℕ) (turn : Result (Option declared.Totals) Failure) (input' : Input)
    (held' : List ℕ) : Type 0 where
  pub turns : Turns input size totals held turn input' held'
