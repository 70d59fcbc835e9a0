-- What the report comes to: of the lines that were taken, as far as it is not written yet.
use Rattle.std.specs.Prelude.{ℕ, ◌+◌, ◌≡◌, ◌⊎◌, List, [], ◌++◌, length, take, Result, Ok, Err}
use Rattle.theory.specs.Limit.{most_lines}
use Rattle.theory.specs.Refusal.{refusal, lines_many}
use Rattle.theory.specs.Grammar.{Text}
use Rattle.theory.specs.Report.{Totals}
use Rattle.theory.specs.Lines.{refusal_line, totals_line, reports, last_line}
use Rattle.lines.specs.declared.failure.Failure.{Failure}
use Rattle.lines.specs.declared.failure.Failure.TheVariants.{Read, Write}
use Rattle.lines.specs.Input.{Input, Unbroken, Comes}
use Rattle.lines.specs.Turn.{Left, Due, Lines}

-- After 100,000 lines: the totals where there is no further line, and 22 where there is one.
pub data Ending (input : Input) (totals : Totals) (left : List ℕ) (input' : Input) (held' : List ℕ) : Type 0 where
  no_more : input.untaken ≡ [] → held' ≡ left ++ totals_line totals → Ending input totals left input' held'
  too_many : (text : Text) → Comes input text input' → held' ≡ left ++ refusal_line (refusal lines_many 0) → Ending input totals left input' held'

-- What `end` owes.
abbrev pub Ends : Input → (size : ℕ) → Totals → List ℕ → Result Unit Failure → Input → List ℕ → Type 0
Ends input size totals held (Ok _) input' held' = (left : List ℕ) × Left input size held left × Ending input totals left input' held'
Ends input size totals held (Err Read) input' held' =
    Unbroken input.untaken × (input'.untaken ≡ []) × Left input size held [] × (held' ≡ [])
Ends input size totals held (Err Write) input' held' = Due input size held × (input' ≡ input) × (held' ≡ held)

-- A list of lines that were taken one after the other, till nothing was left in the block or one more than 100,000: what is held ends with the last
-- line of this list, and what stands before it is an end of its answers. So the lines that stand in the block at the start are in the list.
pub record Whole (input : Input) (held' : List ℕ) : Type 0 where
  pub texts : List Text
  pub end : Input
  pub lines : Lines input texts end
  pub all : (end.untaken ≡ []) ⊎ (length texts ≡ most_lines + 1)
  pub shown : List ℕ
  pub kept : List ℕ
  pub answers : shown ++ kept ≡ reports (take most_lines texts)
  pub stands : held' ≡ kept ++ last_line texts

-- These bytes end a report: that on some list.
pub record Last (bytes : List ℕ) : Type 0 where
  pub texts : List Text
  pub kept : List ℕ
  pub is : bytes ≡ kept ++ last_line texts

-- What `report` owes. Of a failure it can owe nothing: after the lines that stand in a block a read is always due, and a write before it.
abbrev pub Reports : Input → Result Unit Failure → List ℕ → Type 0
Reports input (Ok _) held' = Whole input held'
Reports input (Err f) held' = Unit {0}

-- What `run` owes: what was held last was handed on whole.
abbrev pub Runs : Input → Result ℕ Failure → Type 0
Runs input (Ok count) = (held : List ℕ) × Whole input held × (count ≡ length held)
Runs input (Err f) = Unit {0}
