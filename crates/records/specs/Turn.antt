-- What a turn of the records program does: the next line is taken, and its answer stands after what is left of the answers before it.
use Rattle.std.specs.Prelude.{ℕ, ◌≡◌, List, [], Option, None, Some, Result, Ok, Err}
use Rattle.theory.specs.Grammar.{Text}
use Rattle.lines.specs.declared.failure.Failure.{Failure}
use Rattle.lines.specs.declared.failure.Failure.TheVariants.{Read, Write}
use Rattle.lines.specs.declared.input.Line.{Line}
use Rattle.lines.specs.Input.{Input, TookWhole}
use Rattle.lines.specs.Turn.{Left, Due}
use Rattle.records.specs.Answer.{Answered}

-- A line was taken, and answered.
pub record Answers (text : Text) (input : Input) (size : ℕ) (held : List ℕ) (line : Line) (input' : Input) (column held' : List ℕ) : Type 0 where
  pub left : List ℕ
  pub leaves : Left input size held left
  pub took : TookWhole input (Ok (Some line)) input' column
  pub answered : Answered text line column left held'

-- Where the input ends or a read fails, nothing is untaken and nothing is left to be written. A write fails only where one is due, and then no
-- line is taken.
abbrev pub Turns : Text → Input → (size : ℕ) → List ℕ → Result (Option Line) Failure → Input → List ℕ → List ℕ → Type 0
Turns text input size held (Ok (Some line)) input' column held' = Answers text input size held line input' column held'
Turns text input size held (Ok None) input' column held' = TookWhole input (Ok None) input' column × Left input size held [] × (held' ≡ [])
Turns text input size held (Err Read) input' column held' = TookWhole input (Err Read) input' column × Left input size held [] × (held' ≡ [])
Turns text input size held (Err Write) input' column held' = Due input size held × (input' ≡ input) × (held' ≡ held)

-- What `answer_next` owes.
pub record Turned (text : Text) (input : Input) (size : ℕ) (held : List ℕ) (turn : Result (Option Line) Failure) (input' : Input)
    (column held' : List ℕ) : Type 0 where
  pub turns : Turns text input size held turn input' column held'
