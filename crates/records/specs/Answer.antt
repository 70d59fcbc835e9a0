-- What the records program answers to a line as it was taken: 01, "prints per record `accepted L`, `unfinished L` (L is live) or `wrong P`", and
-- `refused R P` on a refusal.
use Rattle.std.specs.Prelude.{ℕ, ◌+◌, ◌≤◌, ◌≡◌, List, ◌++◌, length, take, Result, Ok, Err}
use Rattle.theory.specs.Expression.{Expression}
use Rattle.theory.specs.Refusal.{refusal, record_long}
use Rattle.theory.specs.Grammar.{Text}
use Rattle.theory.specs.Record.{automaton, accepted, unfinished, wrong, verdict, live}
use Rattle.theory.specs.Lines.{verdict_line, refusal_line}
use Rattle.theory.specs.Stated.{stated}
use Rattle.theory.specs.declared.refusal.Refusal.{Refusal}
use Rattle.lines.specs.declared.input.Line.{Line}
use Rattle.lines.specs.declared.input.Line.TheVariants.{Ended, Full}
use Rattle.lines.specs.Output.{line_room}
use Rattle.matcher.specs.declared.Verdict.{Verdict}
use Rattle.matcher.specs.declared.Verdict.TheVariants.{Accepted, Unfinished, Wrong}
use Rattle.site.specs.Sited.{OfText}

-- 01, refusal 16: "record line over 4,096 bytes". The code has it as `RECORD`.
abbrev pub longest_record : ℕ
longest_record = 4096

-- The line of the matcher's answer.
abbrev pub judgement_line : Result Verdict Refusal → List ℕ
judgement_line (Ok (Accepted live)) = verdict_line accepted live
judgement_line (Ok (Unfinished live)) = verdict_line unfinished live
judgement_line (Ok (Wrong place)) = verdict_line (wrong place) 0
judgement_line (Err r) = refusal_line (stated r)

-- The answer to a line, by the expression e of the program's text: of a record its verdict, of a line that filled the column 16.
unfoldable pub line_answer : Expression → Line → List ℕ → List ℕ
unfolding automaton verdict live
line_answer e (Ended n) column = let w = take n column in verdict_line (verdict (automaton e) w) (live (automaton e) w)
line_answer e Full column = refusal_line (refusal record_long 0)

-- What `answer` owes: the answer stands after what was held, by the expression that the text writes.
pub record Answered (text : Text) (line : Line) (column held held' : List ℕ) : Type 0 where
  pub stands : OfText text (λ e. held' ≡ held ++ line_answer e line column)
  pub short : length held' ≤ length held + line_room
