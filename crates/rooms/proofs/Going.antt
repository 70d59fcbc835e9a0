-- Between two turns of the report: the texts that were taken, their totals, and their reports, as far as they are written and as they are held.
use Prim.Native.Nat.{ℕ, ◌+◌, ◌≤◌, ◌<◌}
use native.Mathlib.Omega.{arith}
use mathlib.Core.Path.{◌≡◌, refl, sym, ap, ◌∙◌, subst}
use mathlib.Core.Logic.{◌⊎◌, inl, inr}
use mathlib.Core.List.{List, [], ◌∷◌, ◌++◌, append-nil, append_assoc}
use lib.ListN.{length, length-append}
use Rattle.std.specs.Prelude.{Option, None, Some, Result, Ok, Err}
use Rattle.theory.specs.Limit.{most_lines}
use Rattle.theory.specs.Refusal.{refusal, lines_many}
use Rattle.theory.specs.Grammar.{Text}
use Rattle.theory.specs.Report.{Totals, totals, report}
use Rattle.theory.specs.Lines.{report_line, totals_line, refusal_line, reports}
use Rattle.theory.proofs.RoomReport.{reports_more, few_reports, few_last, many_reports, many_last}
use Rattle.lines.specs.declared.failure.Failure.{Failure}
use Rattle.lines.specs.declared.failure.Failure.TheVariants.{Read, Write}
use Rattle.lines.specs.Input.{Input, Comes}
use Rattle.lines.specs.Turn.{Left, Lines, no_line, one_more}
use Rattle.site.specs.Totals.{values, with_report, Fits}
use Rattle.site.proofs.Totalling.{totals_more, totals_fit}
use Rattle.site.specs.declared.totals.Totals as declared
use Rattle.rooms.specs.Turn.{Answers, Turned}
use Rattle.rooms.specs.Reported.{Ending, no_more, too_many, Ends, Whole, Reports}

-- What stands after what is left of what was held, with what is written of it.
record Stands (shown held text held' : List ℕ) : Type 0 where
  shown' : List ℕ
  kept : List ℕ
  answers : shown' ++ kept ≡ shown ++ held
  is : held' ≡ kept ++ text

stands : {input : Input} {size : ℕ} {held left text held' : List ℕ} (shown : List ℕ) → Left input size held left → held' ≡ left ++ text
    → Stands shown held text held'
stands {held = held} {left} {text} {held'} shown l p = go l.whole
  where
    from : (shown' : List ℕ) → shown' ++ left ≡ shown ++ held → Stands shown held text held'
    from shown' e = record { shown' = shown'; kept = left; answers = e; is = p }

    go : (left ≡ held) ⊎ (left ≡ []) → Stands shown held text held'
    go (inl same) = from shown (ap (λ (x : List ℕ). shown ++ x) same)
    go (inr nothing) = from (shown ++ held) (ap (λ (x : List ℕ). (shown ++ held) ++ x) nothing ∙ append-nil (shown ++ held))

pub record Going (start input : Input) (t : Totals) (held : List ℕ) (lines : ℕ) : Type 0 where
  pub texts : List Text
  pub counted : length texts ≡ lines
  pub taken : Lines start texts input
  pub totalled : t ≡ totals texts
  pub shown : List ℕ
  pub answers : shown ++ held ≡ reports texts

pub going_none : {input : Input} {t : Totals} {held : List ℕ} → t ≡ record { built = 0; states = 0; powers = 0; few = 0 } → held ≡ []
    → Going input input t held 0
unfolding totals reports
going_none e none = record { texts = []; counted = refl; taken = no_line; totalled = e; shown = []; answers = none }

module _ {start input : Input} {t : Totals} {held : List ℕ} {lines : ℕ} (g : Going start input t held lines) where
  -- 64 bits hold the totals with any text more.
  pub fits_still : lines < most_lines → (text : Text) → Fits (with_report t (report text))
  fits_still l text =
      let n = g.counted in
      let k = length-append g.texts (text ∷ []) in
      subst Fits (totals_more g.texts text ∙ ap (λ (x : Totals). with_report x (report text)) (sym g.totalled))
      (totals_fit (g.texts ++ text ∷ []) (omega arith))

  going_more : {size : ℕ} {text : List ℕ} {input' : Input} {totals' : declared.Totals} {held' : List ℕ}
      → Answers input size t held text totals' input' held' → Going start input' (values totals') held' (lines + 1)
  going_more {text = text} a =
      let s = stands g.shown a.leaves a.answered.put in
      record {
        texts = g.texts ++ text ∷ [];
        counted = let n = g.counted in let k = length-append g.texts (text ∷ []) in omega arith;
        taken = one_more g.taken a.comes;
        totalled = a.answered.adds ∙ ap (λ (x : Totals). with_report x (report text)) g.totalled ∙ sym (totals_more g.texts text);
        shown = s.shown';
        answers =
            ap (λ (x : List ℕ). s.shown' ++ x) s.is ∙ sym (append_assoc s.shown' s.kept (report_line (report text)))
            ∙ ap (λ (x : List ℕ). x ++ report_line (report text)) (s.answers ∙ g.answers) ∙ sym (reports_more g.texts text);
      }

  -- No further line: the totals.
  whole_report : {size : ℕ} {left held' : List ℕ} → lines ≤ most_lines → Left input size held left → input.untaken ≡ []
      → held' ≡ left ++ totals_line t → Whole start held'
  whole_report few l none p =
      let s = stands g.shown l p in
      let few_texts : length g.texts ≤ most_lines = let n = g.counted in omega arith in
      record {
        texts = g.texts;
        end = input;
        lines = g.taken;
        all = inl none;
        shown = s.shown';
        kept = s.kept;
        answers = s.answers ∙ g.answers ∙ sym (few_reports g.texts few_texts);
        stands =
            s.is ∙ ap (λ (x : Totals). s.kept ++ totals_line x) g.totalled ∙ ap (λ (x : List ℕ). s.kept ++ x) (sym (few_last g.texts few_texts));
      }

  pub next_going : {size : ℕ} {r : Option declared.Totals} {more : declared.Totals} {input' : Input} {held' : List ℕ} → r ≡ Some more
      → Turned input size t held (Ok r) input' held' → Going start input' (values more) held' (lines + 1)
  next_going {size} {input' = input'} {held'} e h =
      let one = subst (λ (r : Option declared.Totals). Turned input size t held (Ok r) input' held') e h in going_more one.turns.1

  pub no_next : {size : ℕ} {r : Option declared.Totals} {input' : Input} {held' held'' : List ℕ} → lines ≤ most_lines → r ≡ None
      → Turned input size t held (Ok r) input' held' → held'' ≡ held' ++ totals_line t → Whole start held''
  no_next {size} {input' = input'} {held'} few e h p =
      let none = (subst (λ (r : Option declared.Totals). Turned input size t held (Ok r) input' held') e h).turns in
      whole_report few none.2 none.0 (p ∙ ap (λ (x : List ℕ). x ++ totals_line t) none.3)

  -- One line too many: 22.
  cut_report : {size : ℕ} {left text : List ℕ} {input' : Input} {held' : List ℕ} → lines ≡ most_lines → Left input size held left
      → Comes input text input' → held' ≡ left ++ refusal_line (refusal lines_many 0) → Whole start held'
  cut_report {text = text} {input'} full l c p =
      let s = stands g.shown l p in
      record {
        texts = g.texts ++ text ∷ [];
        end = input';
        lines = one_more g.taken c;
        all = inr (let n = g.counted in let k = length-append g.texts (text ∷ []) in omega arith);
        shown = s.shown';
        kept = s.kept;
        answers = s.answers ∙ g.answers ∙ sym (many_reports g.texts (g.counted ∙ full) (text ∷ []));
        stands = s.is ∙ ap (λ (x : List ℕ). s.kept ++ x) (sym (many_last g.texts (g.counted ∙ full) (text ∷ []) (omega arith)));
      }

  ended : {size : ℕ} {left : List ℕ} {input' : Input} {held' : List ℕ} → lines ≡ most_lines → Left input size held left
      → Ending input t left input' held' → Whole start held'
  ended full l (no_more e p) = whole_report (omega arith) l e p
  ended full l (too_many text c p) = cut_report full l c p

  pub reported : (size : ℕ) (r : Result Unit Failure) (input' : Input) (held' : List ℕ) → lines ≡ most_lines → Ends input size t held r input' held'
      → Reports start r held'
  reported size (Ok _) input' held' full e = ended full e.1 e.2
  reported size (Err Read) input' held' full e = tt
  reported size (Err Write) input' held' full e = tt
