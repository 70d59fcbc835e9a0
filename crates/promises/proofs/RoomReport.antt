-- The room report. Leans on the site's laws: the report is what is made in the programs' rooms, and the totals are sums over all texts.
use Prim.Native.Nat.{ℕ, ◌^◌}
use native.Mathlib.Omega.{arith}
use borrow.Author.Tests.{lt-ltb, le-ltb, ltb-true, ltb-false}
use mathlib.Core.Path.{◌≡◌, refl, sym, ap, ◌∙◌, subst}
use mathlib.Core.Logic.{◌↔◌}
use mathlib.Core.Bool.{Bool, true, false, cond, ◌&&◌}
use mathlib.Core.List.{List, [], ◌∷◌, map}
use lib.ListN.{length}
use lib.Dec.{ltb}
use Rattle.theory.specs.Expression.{Expression}
use Rattle.theory.specs.Refusal.{Refusal, refusal}
use Rattle.theory.specs.Grammar.{Text, Reading, read, refused, written}
use Rattle.theory.specs.Report as theory
use Rattle.theory.specs.Report.{Report, withheld, needs, too_large, reading, of_reading, report, Totals, totals, is_built, is_small}
use Rattle.theory.specs.Lines.{row, reports, last_line, room_report}
use Rattle.theory.proofs.RoomReport.{reports_more, few_last}
use Rattle.site.specs.Site.{Shown, InRooms, entry_columns, answered, left_in, Made}
use Rattle.site.specs.Totals.{of_one, with_report}
use Rattle.site.proofs.Reporting.{due_is, is_due, made_reports}
use Rattle.site.proofs.Totalling.{totals_are_sums, totals_more, totals_fit as fit}
use Rattle.promises.specs.Reader.{Written}
use Rattle.promises.specs.Site.{SiteCause}
use Rattle.promises.specs.RoomReport.{LinesReport, sum, if_built, if_small, FourSums, Run, none, one_more, TotalsOfTheList, TotalsFit, ReportPrints, joined, Sample}
use Rattle.promises.proofs.Causes.Reader.{written_due}
use Rattle.promises.proofs.Site.{site_meets}

-- ---- One line

-- What the call may answer, whatever is lent.
made : (text : Text) (s : Shown) → Made text s (answered (reading text) s) (left_in (reading text) s)
made text s = record { reading = reading text; due = is_due text; answers = refl; leaves = refl }

exact : (text : Text) {s : Shown} → InRooms s → (r : Refusal) → ((report text).refusal ≡ r) ↔ SiteCause text s r
exact text {s} rooms r =
    subst (λ (a : Report). (a.refusal ≡ r) ↔ SiteCause text s r) (made_reports rooms (made text s)) ((site_meets (made text s)).exact r)

withheld_all : (q : Reading) → ¬ ((of_reading q).refusal.number ≡ 0) → of_reading q ≡ withheld (of_reading q).refusal
unfolding of_reading needs
withheld_all (read e) n = go (too_large e) n
  where
    go : (b : Bool) → ¬ ((cond b (withheld (refusal 9 0)) (needs e)).refusal.number ≡ 0)
        → cond b (withheld (refusal 9 0)) (needs e) ≡ withheld (cond b (withheld (refusal 9 0)) (needs e)).refusal
    go true n = refl
    go false n = absurd (n refl)
withheld_all (refused r) n = refl

all_needs : (e : Expression) → (of_reading (read e)).refusal.number ≡ 0 → of_reading (read e) ≡ needs e
unfolding of_reading
all_needs e z = go (too_large e) z
  where
    go : (b : Bool) → (cond b (withheld (refusal 9 0)) (needs e)).refusal.number ≡ 0 → cond b (withheld (refusal 9 0)) (needs e) ≡ needs e
    go true z = absurd (omega arith)
    go false z = refl

report_needs : {text : Text} (e : Expression) → Written text entry_columns e → (report text).refusal.number ≡ 0 → report text ≡ needs e
unfolding report
report_needs {text} e w z =
    let q : read e ≡ reading text = due_is (written_due w) in
    sym (ap of_reading q) ∙ all_needs e (ap (λ (x : Reading). (of_reading x).refusal.number) q ∙ z)

pub lines_report : LinesReport
unfolding report needs
lines_report = record {
  exact = exact;
  refused = λ text. withheld_all (reading text);
  built = report_needs;
  answered = λ site rooms h. made_reports rooms h;
}

-- ---- The four sums

-- Over the texts what is over their reports.
over : (f : Report → ℕ) (g : Text → ℕ) → ((t : Text) → f (report t) ≡ g t) → (texts : List Text) → theory.sum f (map report texts) ≡ sum g texts
unfolding theory.sum sum
over f g h [] = refl
over f g h (t ∷ ts) = let e = over f g h ts in let k = h t in omega arith

-- At most 10 is not above 10.
small : (t : Text) (n : ℕ) → cond (is_built (report t) && is_small (report t)) n 0 ≡ if_small t n
small t n = go (is_built (report t)) (ltb 10 (report t).letters) refl
  where
    go : (b l : Bool) → ltb 10 (report t).letters ≡ l → cond (b && is_small (report t)) n 0 ≡ cond b (cond l 0 n) 0
    go false l e = refl
    go true true e = let k = ltb-true 10 (report t).letters e in rw (le-ltb (report t).letters 11 (omega arith), cond)
    go true false e = let k = ltb-false 10 (report t).letters e in rw (lt-ltb (report t).letters 11 (omega arith), cond)

four_sums : (texts : List Text) → FourSums texts (totals texts)
four_sums texts =
    subst (FourSums texts) (sym (totals_are_sums texts))
    (record {
      built = over (λ r. (of_one r).built) (λ x. if_built x 1) (λ t. refl) texts;
      states = over (λ r. (of_one r).states) (λ x. if_built x (report x).states) (λ t. refl) texts;
      powers = over (λ r. (of_one r).powers) (λ x. if_small x (2 ^ (report x).letters)) (λ t. small t (2 ^ (report t).letters)) texts;
      few = over (λ r. (of_one r).few) (λ x. if_small x (report x).states) (λ t. small t (report t).states) texts;
    })

run_totals : {texts : List Text} {t : Totals} → Run texts t → t ≡ totals texts
unfolding totals
run_totals none = refl
run_totals (one_more {texts} {t} {text} site r rooms h) =
    ap (with_report t) (made_reports rooms h) ∙ ap (λ (x : Totals). with_report x (report text)) (run_totals r) ∙ sym (totals_more texts text)

pub totals_of_the_list : TotalsOfTheList
totals_of_the_list = record { defined = four_sums; come = run_totals }

pub totals_fit : TotalsFit
totals_fit = record {
  built = λ {texts} s l. omega (arith, s.built, (four_sums texts).built, (fit texts l).built);
  states = λ {texts} s l. omega (arith, s.states, (four_sums texts).states, (fit texts l).states);
  powers = λ {texts} s l. omega (arith, s.powers, (four_sums texts).powers, (fit texts l).powers);
  few = λ {texts} s l. omega (arith, s.few, (four_sums texts).few, (fit texts l).few);
}

-- ---- The whole report

pub report_prints : ReportPrints
unfolding reports room_report last_line row
report_prints = record {
  no_line = refl;
  one_more_line = reports_more;
  whole = λ texts. refl;
  totals_last = few_last;
  refused_last = λ texts l. rw (lt-ltb 100000 (length texts) l, cond);
}

-- ---- A report

pub sample : Sample
unfolding room_report row written joined
sample = record { none = refl; report = refl }
