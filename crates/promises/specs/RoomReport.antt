-- 2026-01, the room report: what each line of the file reports, and the four sums of the last line.
use Rattle.std.specs.Prelude.{ℕ, zero, suc, ◌+◌, ◌^◌, ◌≤◌, ◌<◌, ◌≡◌, ◌↔◌, cond, List, [], ◌∷◌, ◌++◌, length, take, eqb, ltb, Result}
use Rattle.theory.specs.Expression.{Expression, entries, letters, letter, binary, union, shuffle}
use Rattle.theory.specs.Refusal.{Refusal, refusal}
use Rattle.theory.specs.declared.refusal.Refusal.{Refusal as Refused}
use Rattle.theory.specs.Automaton.{states, expressions, arcs}
use Rattle.theory.specs.Grammar.{Text, written}
use Rattle.theory.specs.Report.{report, Totals, totals}
use Rattle.theory.specs.Lines.{report_line, totals_line, reports, last_line, room_report}
use Rattle.site.specs.Site.{Shown, InRooms, entry_columns, Made}
use Rattle.site.specs.Values.{values}
use Rattle.site.specs.Totals.{with_report}
use Rattle.site.specs.declared.Site.{Site}
use Rattle.promises.specs.Reader.{Written}
use Rattle.promises.specs.Site.{SiteCause}

-- ---- One line

-- "per line, single-spaced, entries, letters, states, expressions and arcs, or the refusal"; "the rooms of the other two programs". Letters are
-- counted with repeats, as the letter's m.
pub record LinesReport : Type 0 where
  -- A refusal is reported exactly where there is cause for it, and then no count.
  pub exact : (text : Text) {s : Shown} → InRooms s → (r : Refusal) → ((report text).refusal ≡ r) ↔ SiteCause text s r
  pub refused : (text : Text) → ¬ ((report text).refusal.number ≡ 0)
      → report text ≡ record { refusal = (report text).refusal; entries = 0; letters = 0; states = 0; expressions = 0; arcs = 0 }
  -- Else the five numbers are those of the expression that the text writes.
  pub built : {text : Text} (e : Expression) → Written text entry_columns e → (report text).refusal.number ≡ 0
      → report text ≡ record {
        refusal = refusal 0 0;
        entries = entries e;
        letters = length (letters e);
        states = length (states e);
        expressions = length (expressions e);
        arcs = length (arcs e);
      }
  -- It is what `site::automaton` answers in the programs' rooms.
  pub answered : {text : Text} {s : Shown} {s' : Shown} (site : Result Site Refused) → InRooms s → Made text s (values site) s'
      → values site ≡ report text

-- ---- The four sums

unfoldable pub sum : (Text → ℕ) → List Text → ℕ
sum f [] = 0
sum f (t ∷ ts) = f t + sum f ts

-- n for a text that is built, and nothing for one that is refused.
abbrev pub if_built : Text → ℕ → ℕ
if_built t n = cond (eqb (report t).refusal.number 0) n 0

-- n for a text that is built with m at most 10, and nothing for another.
abbrev pub if_small : Text → ℕ → ℕ
if_small t n = if_built t (cond (ltb 10 (report t).letters) 0 n)

pub record FourSums (texts : List Text) (t : Totals) : Type 0 where
  -- "lines built"
  pub built : t.built ≡ sum (λ x. if_built x 1) texts
  -- "the sum of their states"
  pub states : t.states ≡ sum (λ x. if_built x (report x).states) texts
  -- "for built lines with m at most 10 alone, the sums of 2^m and of states"
  pub powers : t.powers ≡ sum (λ x. if_small x (2 ^ (report x).letters)) texts
  pub few : t.few ≡ sum (λ x. if_small x (report x).states) texts

-- The totals in a run: nothing at first, and after each text those that `Totals::with` makes of what `site::automaton` answered.
pub data Run : List Text → Totals → Type 0 where
  none : Run [] (record { built = 0; states = 0; powers = 0; few = 0 })
  one_more : {texts : List Text} {t : Totals} {text : Text} {s s' : Shown} (site : Result Site Refused) → Run texts t → InRooms s
      → Made text s (values site) s' → Run (texts ++ text ∷ []) (with_report t (values site))

-- "that the totals are those of the list"
pub record TotalsOfTheList : Type 0 where
  pub defined : (texts : List Text) → FourSums texts (totals texts)
  pub come : {texts : List Text} {t : Totals} → Run texts t → t ≡ totals texts

-- "that 64 bits hold every sum", of as many lines as are not refused with 22.
pub record TotalsFit : Type 0 where
  pub built : {texts : List Text} {t : Totals} → FourSums texts t → length texts ≤ 100000 → t.built < 18446744073709551616
  pub states : {texts : List Text} {t : Totals} → FourSums texts t → length texts ≤ 100000 → t.states < 18446744073709551616
  pub powers : {texts : List Text} {t : Totals} → FourSums texts t → length texts ≤ 100000 → t.powers < 18446744073709551616
  pub few : {texts : List Text} {t : Totals} → FourSums texts t → length texts ≤ 100000 → t.few < 18446744073709551616

-- ---- The whole report

pub record ReportPrints : Type 0 where
  -- "prints per line"
  pub no_line : reports [] ≡ []
  pub one_more_line : (texts : List Text) (t : Text) → reports (texts ++ t ∷ []) ≡ reports texts ++ report_line (report t)
  -- "and a last line"; "after the first 100,000"
  pub whole : (texts : List Text) → room_report texts ≡ reports (take 100000 texts) ++ last_line texts
  -- "of totals"
  pub totals_last : (texts : List Text) → length texts ≤ 100000 → last_line texts ≡ totals_line (totals texts)
  -- "22, more than 100,000 lines, printed .. in place of the totals": refused 22 0
  pub refused_last : (texts : List Text) → 100000 < length texts
      → last_line texts ≡ 114 ∷ 101 ∷ 102 ∷ 117 ∷ 115 ∷ 101 ∷ 100 ∷ 32 ∷ 50 ∷ 50 ∷ 32 ∷ 48 ∷ 10 ∷ []

-- ---- A report

-- a and as many further a, joined by +.
unfoldable pub joined : ℕ → Expression
joined zero = letter 97
joined (suc n) = binary union (joined n) (letter 97)

-- `(a&b)`, an empty line, ten letters and eleven: the totals have three lines built, and in the last two of them two.
pub record Sample : Type 0 where
  -- A file without a line: 0 0 0 0
  pub none : room_report [] ≡ 48 ∷ 32 ∷ 48 ∷ 32 ∷ 48 ∷ 32 ∷ 48 ∷ 10 ∷ []
  -- 3 2 4 4 4, refused 13 0, 19 10 2 11 1, 21 11 2 12 1, 3 8 1028 6
  pub report : room_report (written (binary shuffle (letter 97) (letter 98)) ∷ [] ∷ written (joined 9) ∷ written (joined 10) ∷ [])
      ≡ 51 ∷ 32 ∷ 50 ∷ 32 ∷ 52 ∷ 32 ∷ 52 ∷ 32 ∷ 52 ∷ 10
      ∷ 114 ∷ 101 ∷ 102 ∷ 117 ∷ 115 ∷ 101 ∷ 100 ∷ 32 ∷ 49 ∷ 51 ∷ 32 ∷ 48 ∷ 10
      ∷ 49 ∷ 57 ∷ 32 ∷ 49 ∷ 48 ∷ 32 ∷ 50 ∷ 32 ∷ 49 ∷ 49 ∷ 32 ∷ 49 ∷ 10
      ∷ 50 ∷ 49 ∷ 32 ∷ 49 ∷ 49 ∷ 32 ∷ 50 ∷ 32 ∷ 49 ∷ 50 ∷ 32 ∷ 49 ∷ 10
      ∷ 51 ∷ 32 ∷ 56 ∷ 32 ∷ 49 ∷ 48 ∷ 50 ∷ 56 ∷ 32 ∷ 54 ∷ 10 ∷ []
