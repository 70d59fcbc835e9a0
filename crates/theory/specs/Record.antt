-- 01, "Reading a record": over any automaton, whoever made it: the verdict on a record, its place, live, and refusals 1, 10 and 11 of the
-- matcher. What the verdict and live mean stands in `Verdict`.
use Rattle.std.specs.Prelude.{ℕ, ◌+◌, ◌/◌, ◌≤◌, ◌<◌, Bool, cond, not, ◌&&◌, ◌||◌, List, map, length, get_or, eqb, leb, ltb}
use Rattle.std.proofs.Math.Option.{none, some}
use Rattle.theory.specs.Column.{zeros}
use Rattle.theory.specs.Expression.{Expression}
use Rattle.theory.specs.Language.{Word}
use Rattle.theory.specs.Automaton.{Arc, states, accepting, arcs}
use Rattle.theory.specs.Limit.{most_states, most_arcs}
use Rattle.theory.specs.Refusal.{Refusal, refusal, success, columns_differ, automaton_malformed, work_short}
use Rattle.theory.specs.Below.{some_below, all_below, count_below}
use Rattle.theory.specs.Arcs.{ArcColumns, arc_columns, Arcs, counted, even_arcs, start, reached, dead_at}

-- 01: "The matcher takes a state count, the accepting column, an arc count, the arc columns".
pub record Handed : Type 0 where
  pub states : ℕ
  pub accepting : List ℕ
  pub arcs : Arcs

abbrev pub handed : ℕ → List ℕ → ℕ → ArcColumns → Handed
handed n acc k c = record { states = n; accepting = acc; arcs = counted k c }

-- The automaton of an expression, as it is handed over.
unfoldable pub automaton : Expression → Handed
unfolding states accepting arcs
automaton e =
    let all = arcs e in
    handed (length (states e)) (accepting e) (length all)
    (arc_columns (map (λ (z : Arc). z.from) all) (map (λ (z : Arc). z.letter) all) (map (λ (z : Arc). z.to) all))

-- ---- Verdict, place and live

pub data Verdict : Type 0 where
  accepted unfinished : Verdict
  wrong : ℕ → Verdict

unfoldable pub accepts : Handed → Word → Bool
unfolding some_below reached
accepts h w = some_below h.states (λ t. reached h.arcs w t && eqb (get_or h.accepting t 0) 1)

-- 01: "accepted: an accepting state is reached by the record; unfinished: states are reached, none accepting; wrong at p: p is the
-- first byte, from 0, after which no state is reached".
unfoldable pub verdict : Handed → Word → Verdict
unfolding dead_at accepts start
verdict h w = elim (dead_at h.arcs start 0 w) [ some p ↦ wrong p | none ↦ cond (accepts h w) accepted unfinished ]

-- 01: "`live` the number of set state bits after the last byte".
unfoldable pub live : Handed → Word → ℕ
unfolding count_below reached
live h w = count_below h.states (reached h.arcs w)

-- ---- Refusal 10

-- 01: "the state count is 0 or over 65,535 or over the accepting column".
unfoldable pub states_fit : Handed → Bool
states_fit h = not (eqb h.states 0) && leb h.states most_states && leb h.states (length h.accepting)

-- 01: "the arc count is over the arc columns or over 16,777,216".
unfoldable pub arcs_fit : Arcs → Bool
arcs_fit a = leb a.count (length a.columns.from) && leb a.count most_arcs

-- 01: "a used accepting value is not 0 or 1".
unfoldable pub accepting_fits : ℕ → List ℕ → Bool
unfolding all_below
accepting_fits n flags = all_below n (λ t. leb (get_or flags t 0) 1)

-- 01: "a used arc's end is not below the state count, or its letter is 0": arc i of the columns, among n states.
unfoldable pub arc_fits : ArcColumns → (n i : ℕ) → Bool
arc_fits c n i = ltb (get_or c.from i 0) n && ltb (get_or c.to i 0) n && not (eqb (get_or c.letter i 0) 0)

unfoldable pub ends_fit : Arcs → ℕ → Bool
unfolding all_below arc_fits
ends_fit a n = all_below a.count (arc_fits a.columns n)

unfoldable pub well_formed : Handed → Bool
unfolding states_fit arcs_fit accepting_fits ends_fit
well_formed h = states_fit h && arcs_fit h.arcs && (accepting_fits h.states h.accepting && ends_fit h.arcs h.states)

-- What `well_formed` tests: an automaton that is not malformed, by 01's causes of refusal 10.
pub record WellFormedAutomaton (h : Handed) : Type 0 where
  pub some_state : 0 < h.states
  pub few_states : h.states ≤ most_states
  pub accepting_long : h.states ≤ length h.accepting
  pub arcs_long : h.arcs.count ≤ length h.arcs.columns.from
  pub few_arcs : h.arcs.count ≤ most_arcs
  pub accepting_value : (t : ℕ) → t < h.states → get_or h.accepting t 0 ≤ 1
  pub from_below : (i : ℕ) → i < h.arcs.count → get_or h.arcs.columns.from i 0 < h.states
  pub to_below : (i : ℕ) → i < h.arcs.count → get_or h.arcs.columns.to i 0 < h.states
  pub letter_some : (i : ℕ) → i < h.arcs.count → 0 < get_or h.arcs.columns.letter i 0

-- ---- The work columns

-- 01: "two work columns of 64-bit words that hold one bit per state".
pub record Work : Type 0 where
  pub current : List ℕ
  pub next : List ℕ

abbrev pub work : List ℕ → List ℕ → Work
work c n = record { current = c; next = n }

-- 01: "Work columns are zero afterwards."
abbrev pub cleared : Work → Work
cleared k = work (zeros (length k.current)) (zeros (length k.next))

-- 01: "the state count divided by 64, rounded up".
abbrev pub words : ℕ → ℕ
words n = (n + 63) / 64

-- 01, refusal 11: "a work column has fewer words than the state count divided by 64, rounded up".
unfoldable pub short : Work → ℕ → Bool
short k n = ltb (length k.current) (words n) || ltb (length k.next) (words n)

-- What `short` does not find: each work column holds a bit for each of n states.
pub record LongEnough (k : Work) (n : ℕ) : Type 0 where
  pub current : words n ≤ length k.current
  pub next : words n ≤ length k.next

-- ---- The refusal

-- 01: "Matcher: 1, 10, 11."
unfoldable pub matcher_refusal : Handed → Work → Refusal
unfolding even_arcs well_formed short
matcher_refusal h k =
    cond (not (even_arcs h.arcs.columns)) (refusal columns_differ 0)
    (cond (not (well_formed h)) (refusal automaton_malformed 0)
    (cond (short k h.states) (refusal work_short 0) success))
