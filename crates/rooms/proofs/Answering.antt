-- A turn of the report: a line that was taken, and its answer, or the end of the input.
use Prim.Native.Nat.{ℕ, ◌+◌}
use native.Mathlib.Omega.{arith}
use mathlib.Core.Path.{◌≡◌, sym, ap, ◌∙◌, subst}
use mathlib.Core.List.Memᴰ
use mathlib.Core.List.{List, [], ◌++◌}
use lib.ListN.{length, take, length-append}
use Rattle.std.specs.Prelude.{Option, None, Some, Ok}
use Rattle.theory.specs.Limit.{longest_text}
use Rattle.theory.specs.Refusal.{refusal, lines_many}
use Rattle.theory.specs.Grammar.{Text}
use Rattle.theory.specs.Report.{Totals, report}
use Rattle.theory.specs.Lines.{refusal_line, report_line}
use Rattle.lines.specs.declared.input.Line.{Line}
use Rattle.lines.specs.declared.input.Line.TheVariants.{Ended, Full}
use Rattle.lines.specs.Input.{Input, Unbroken, Comes, line_bytes}
use Rattle.lines.specs.Turn.{Left, Asks}
use Rattle.site.specs.Totals.{with_report}
use Rattle.site.specs.declared.totals.Totals as declared
use Rattle.site.proofs.Reporting.{reports_long}
use Rattle.rooms.specs.Turn.{Answered, Turned}
use Rattle.rooms.specs.Reported.{Ends, too_many}

-- Of a line that fills the column the report is that of the column.
module _ {input : Input} {size : ℕ} {totals : Totals} {held left : List ℕ} {input' : Input} {column : List ℕ} (w : length column ≡ longest_text + 1)
    {totals' : declared.Totals} {held' : List ℕ} where
  turned : (line : Line) → Asks input size held (Ok (Some line)) input' column left
      → Answered (line_bytes (Some line) column) totals left totals' held' → Turned input size totals held (Ok (Some totals')) input' held'
  turned (Ended n) a d = record {
    turns = (take n column, record { comes = a.1.holds.1; left = left; leaves = a.0; answered = d });
  }
  turned Full a d =
      let more = a.1.holds.0 in
      let same : report column ≡ report (column ++ more) =
      reports_long column (omega arith) ∙ sym (reports_long (column ++ more) (omega (arith, length-append column more))) in
      record {
        turns = (
          column ++ more,
          record {
            comes = a.1.holds.1;
            left = left;
            leaves = a.0;
            answered = record {
              put = d.put ∙ ap (λ x. left ++ report_line x) same;
              short = d.short;
              adds = d.adds ∙ ap (with_report totals) same;
            };
          },
        );
      }

  pub turned_line : {r : Option Line} {line : Line} {text : List ℕ} → r ≡ Some line → Asks input size held (Ok r) input' column left
      → text ≡ line_bytes r column → Answered text totals left totals' held' → Turned input size totals held (Ok (Some totals')) input' held'
  turned_line {line = line} e a t d =
      turned line (subst (λ (r : Option Line). Asks input size held (Ok r) input' column left) e a)
      (subst (λ (x : List ℕ). Answered x totals left totals' held') (t ∙ ap (λ (r : Option Line). line_bytes r column) e) d)

-- At the end of the input nothing is held.
pub turned_end : {input : Input} {size : ℕ} {totals : Totals} {held left : List ℕ} {input' : Input} {column held' : List ℕ} {r : Option Line}
    → r ≡ None → Asks input size held (Ok r) input' column left → (left ≡ [] → held' ≡ []) → Turned input size totals held (Ok None) input' held'
turned_end {input} {size} {held = held} {left} {input'} {column} e a none =
    let asked = subst (λ (r : Option Line). Asks input size held (Ok r) input' column left) e a in
    let nothing = asked.0.shown (subst Unbroken (sym asked.1.holds.0) Memᴰ.not-nil) in
    record {
      turns = (asked.1.holds.0, asked.1.holds.1, subst (Left input size held) nothing asked.0, none nothing);
    }

-- ---- A line too many

comes : {input : Input} {size : ℕ} {held left : List ℕ} {input' : Input} {column : List ℕ} (line : Line)
    → Asks input size held (Ok (Some line)) input' column left → (text : Text) × Comes input text input'
comes {column = column} (Ended n) a = (take n column, a.1.holds.1)
comes {column = column} Full a = (column ++ a.1.holds.0, a.1.holds.1)

pub one_too_many : {input : Input} {size : ℕ} {totals : Totals} {held left : List ℕ} {input' : Input} {column held' : List ℕ} {r : Option Line}
    {line : Line} → r ≡ Some line → Asks input size held (Ok r) input' column left → held' ≡ left ++ refusal_line (refusal lines_many 0)
    → Ends input size totals held (Ok tt) input' held'
one_too_many {input} {size} {held = held} {left} {input'} {column} {line = line} e a p =
    let one = subst (λ (r : Option Line). Asks input size held (Ok r) input' column left) e a in
    let text = comes line one in
    (left, one.0, too_many text.0 text.1 p)
