-- The room report by the number of its texts: up to 100,000 it ends with the totals, and beyond them with 22.
use Prim.Native.Nat.{ℕ, ◌≤◌, ◌<◌}
use native.Mathlib.Omega.{arith}
use borrow.Author.Tests.{lt-ltb, le-ltb}
use mathlib.Core.Path.{◌≡◌, sym, ap, ◌∙◌}
use mathlib.Core.Bool.{cond}
use mathlib.Core.List.{List, [], ◌∷◌, ◌++◌, append-nil}
use lib.ListN.{length, take, length-append}
use lib.Seq.{take_all, take-append_seam}
use Rattle.theory.specs.Limit.{most_lines}
use Rattle.theory.specs.Refusal.{refusal, lines_many}
use Rattle.theory.specs.Grammar.{Text}
use Rattle.theory.specs.Report.{report, totals}
use Rattle.theory.specs.Lines.{report_line, totals_line, refusal_line, reports, last_line}
use Rattle.theory.proofs.Members.{flat_map_append}

pub reports_more : (texts : List Text) (t : Text) → reports (texts ++ t ∷ []) ≡ reports texts ++ report_line (report t)
unfolding reports
reports_more texts t =
    flat_map_append (λ x. report_line (report x)) texts (t ∷ []) ∙ ap (λ (x : List ℕ). reports texts ++ x) (append-nil (report_line (report t)))

-- Up to 100,000.
module _ (texts : List Text) (few : length texts ≤ most_lines) where
  pub few_reports : reports (take most_lines texts) ≡ reports texts
  few_reports = ap reports (take_all most_lines texts few)

  pub few_last : last_line texts ≡ totals_line (totals texts)
  unfolding last_line
  few_last = rw (le-ltb most_lines (length texts) few, cond)

-- 100,000 and more behind them.
module _ (texts : List Text) (full : length texts ≡ most_lines) (more : List Text) where
  pub many_reports : reports (take most_lines (texts ++ more)) ≡ reports texts
  many_reports = ap reports (ap (λ (k : ℕ). take k (texts ++ more)) (sym full) ∙ take-append_seam texts more)

  pub many_last : 0 < length more → last_line (texts ++ more) ≡ refusal_line (refusal lines_many 0)
  unfolding last_line
  many_last some = let n = length-append texts more in rw (lt-ltb most_lines (length (texts ++ more)) (omega arith), cond)
