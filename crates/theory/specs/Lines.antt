-- 01, "Two programs": what the programs print, byte by byte.
use Rattle.std.specs.Prelude.{ℕ, zero, suc, ◌+◌, ◌/◌, ◌%◌, cond, length, get_or, take, ltb, eqb}
use mathlib.Core.List.{List, [], ◌∷◌, ◌++◌, flat_map}
use Rattle.theory.specs.Expression.{Expression}
use Rattle.theory.specs.Automaton.{Arc, ascending, states, accepting, arcs}
use Rattle.theory.specs.Refusal.{Refusal, refusal, lines_many}
use Rattle.theory.specs.Limit.{most_lines}
use Rattle.theory.specs.Grammar.{Text}
use Rattle.theory.specs.Report.{Report, Totals, is_built, report, totals}
use Rattle.theory.specs.Record.{Verdict, accepted, unfinished, wrong}

-- "label a decimal number": one below 10 is its digit, another is its tenth and its last digit. The steps are never more than the number.
unfoldable pub digits_in : ℕ → ℕ → List ℕ
digits_in zero n = []
digits_in (suc steps) n = cond (ltb n 10) ((48 + n) ∷ []) (digits_in steps (n / 10) ++ ((48 + n % 10) ∷ []))

unfoldable pub decimal : ℕ → List ℕ
unfolding digits_in
decimal n = digits_in (suc n) n

-- A number and the byte after it: "single spaces", and a newline at a line's end.
abbrev pub space : ℕ
space = 32

abbrev pub newline : ℕ
newline = 10

abbrev pub number_and : ℕ → ℕ → List ℕ
number_and n after = decimal n ++ (after ∷ [])

-- ---- The listing program

-- "arcs in table order as `from to label`"
abbrev pub arc_line : (from to letter : ℕ) → List ℕ
arc_line f t l = number_and f space ++ number_and t space ++ number_and l newline

-- "then each accepting state on its own line, ascending"
abbrev pub state_line : ℕ → List ℕ
state_line s = number_and s newline

unfoldable pub listing : Expression → List ℕ
unfolding flat_map ascending states accepting arcs decimal
listing e =
    let flags = accepting e in
    flat_map (λ (a : Arc). arc_line a.from a.to a.letter) (arcs e)
    ++ flat_map (λ s. cond (eqb (get_or flags s 0) 1) (state_line s) []) (ascending 0 (length (states e)))

-- ---- The records program

-- `accepted `
abbrev pub accepted_word : List ℕ
accepted_word = 97 ∷ 99 ∷ 99 ∷ 101 ∷ 112 ∷ 116 ∷ 101 ∷ 100 ∷ 32 ∷ []

-- `unfinished `
abbrev pub unfinished_word : List ℕ
unfinished_word = 117 ∷ 110 ∷ 102 ∷ 105 ∷ 110 ∷ 105 ∷ 115 ∷ 104 ∷ 101 ∷ 100 ∷ 32 ∷ []

-- `wrong `
abbrev pub wrong_word : List ℕ
wrong_word = 119 ∷ 114 ∷ 111 ∷ 110 ∷ 103 ∷ 32 ∷ []

-- "prints per record `accepted L`, `unfinished L` (L is live) or `wrong P`"
abbrev pub verdict_line : Verdict → ℕ → List ℕ
verdict_line accepted live = accepted_word ++ number_and live newline
verdict_line unfinished live = unfinished_word ++ number_and live newline
verdict_line (wrong p) live = wrong_word ++ number_and p newline

-- ---- All

-- `refused `
abbrev pub refused_word : List ℕ
refused_word = 114 ∷ 101 ∷ 102 ∷ 117 ∷ 115 ∷ 101 ∷ 100 ∷ 32 ∷ []

-- "Both print `refused R P` (number, place) on a refusal"
abbrev pub refusal_line : Refusal → List ℕ
refusal_line r = refused_word ++ number_and r.number space ++ number_and r.place newline

-- ---- The room report

-- "single-spaced": some numbers and a last one on a line.
unfoldable pub row : List ℕ → ℕ → List ℕ
unfolding flat_map decimal
row numbers last = flat_map (λ n. number_and n space) numbers ++ number_and last newline

-- "per line, single-spaced, entries, letters, states, expressions and arcs, or the refusal"
abbrev pub report_line : Report → List ℕ
report_line r =
    cond (is_built r) (row (r.entries ∷ r.letters ∷ r.states ∷ r.expressions ∷ []) r.arcs) (refusal_line r.refusal)

-- "a last line of totals"
abbrev pub totals_line : Totals → List ℕ
totals_line t = row (t.built ∷ t.states ∷ t.powers ∷ []) t.few

-- "prints per line"
unfoldable pub reports : List Text → List ℕ
unfolding flat_map report decimal
reports texts = flat_map (λ t. report_line (report t)) texts

-- "22, more than 100,000 lines, printed after the first 100,000 in place of the totals"
unfoldable pub last_line : List Text → List ℕ
unfolding totals decimal
last_line texts = cond (ltb most_lines (length texts)) (refusal_line (refusal lines_many 0)) (totals_line (totals texts))

unfoldable pub room_report : List Text → List ℕ
unfolding reports last_line
room_report texts = reports (take most_lines texts) ++ last_line texts
