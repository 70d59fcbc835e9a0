-- The matcher's refusals: what the tests of 10 and 11 mean, the refusal by the answers of the three tests, and what holds where there is none.
-- Leans on `Below` for the tests over all states and arcs.
use Prim.Native.Nat.{ℕ, ◌≤◌, ◌<◌}
use native.Mathlib.Omega.{arith}
use mathlib.Core.Path.{◌≡◌, refl, sym, ap, ap₂, ◌∙◌}
use mathlib.Core.List.{List}
use mathlib.Core.Logic.{◌↔◌}
use mathlib.Core.Bool.{Bool, true, false, cond, not, ◌&&◌, and-eq-true_iff}
use lib.ListN.{length, get_or}
use lib.Dec.{eqb, leb, ltb}
use borrow.Author.Tests.{eqb-false, ne_eqb, leb-true, le-leb, ltb-true, ltb-false, lt-ltb, le-ltb, not-true}
use Rattle.theory.specs.Limit.{most_states, most_arcs}
use Rattle.theory.specs.Refusal.{Refusal, refusal, success, columns_differ, automaton_malformed, work_short}
use Rattle.theory.specs.Arcs.{ArcColumns, Arcs, even_arcs, EvenArcs}
use Rattle.theory.specs.Record.{Handed, Work, words, short, LongEnough, states_fit, arcs_fit, accepting_fits, arc_fits, ends_fit, well_formed, WellFormedAutomaton, matcher_refusal}
use Rattle.theory.proofs.Below.{all_at, all_each}
use Rattle.theory.proofs.Tests.{or_left, or_right}
use Rattle.theory.proofs.Arcs.{even_arcs_iff}

-- ---- Refusal 10

pub states_fit_iff : (h : Handed) → (states_fit h ≡ true) ↔ ((0 < h.states) × (h.states ≤ most_states) × (h.states ≤ length h.accepting))
unfolding states_fit
states_fit_iff h = (forth, back)
  where
    forth : (not (eqb h.states 0) && leb h.states most_states && leb h.states (length h.accepting)) ≡ true
        → (0 < h.states) × (h.states ≤ most_states) × (h.states ≤ length h.accepting)
    forth e =
        let (front, long) = (and-eq-true_iff _ _).0 e in
        let (some, few) = (and-eq-true_iff _ _).0 front in
        let n = eqb-false h.states 0 (not-true _ some) in
        (omega arith, leb-true _ _ few, leb-true _ _ long)

    back : (0 < h.states) × (h.states ≤ most_states) × (h.states ≤ length h.accepting)
        → (not (eqb h.states 0) && leb h.states most_states && leb h.states (length h.accepting)) ≡ true
    back (some, few, long) = rw (ne_eqb h.states 0 (λ z. omega arith), le-leb _ _ few, le-leb _ _ long)

pub arcs_fit_iff : (a : Arcs) → (arcs_fit a ≡ true) ↔ ((a.count ≤ length a.columns.from) × (a.count ≤ most_arcs))
unfolding arcs_fit
arcs_fit_iff a = (
  λ e. let (long, few) = (and-eq-true_iff _ _).0 e in (leb-true _ _ long, leb-true _ _ few),
  λ (long, few). (and-eq-true_iff _ _).1 (le-leb _ _ long, le-leb _ _ few),
)

accepting_fits_iff : (n : ℕ) (flags : List ℕ) → (accepting_fits n flags ≡ true) ↔ ((t : ℕ) → t < n → get_or flags t 0 ≤ 1)
unfolding accepting_fits
accepting_fits_iff n flags = (λ e t l. leb-true _ _ (all_at n _ t e l), λ f. all_each n _ (λ t l. le-leb _ _ (f t l)))

arc_fits_iff : (c : ArcColumns) (n i : ℕ) → (arc_fits c n i ≡ true) ↔ ((get_or c.from i 0 < n) × (get_or c.to i 0 < n) × (0 < get_or c.letter i 0))
unfolding arc_fits
arc_fits_iff c n i = (forth, λ (f, t, l). rw (lt-ltb _ _ f, lt-ltb _ _ t, ne_eqb (get_or c.letter i 0) 0 (λ z. omega arith)))
  where
    forth : (ltb (get_or c.from i 0) n && ltb (get_or c.to i 0) n && not (eqb (get_or c.letter i 0) 0)) ≡ true
        → (get_or c.from i 0 < n) × (get_or c.to i 0 < n) × (0 < get_or c.letter i 0)
    forth e =
        let (ends, some) = (and-eq-true_iff _ _).0 e in
        let (f, t) = (and-eq-true_iff _ _).0 ends in
        let z = eqb-false (get_or c.letter i 0) 0 (not-true _ some) in
        (ltb-true _ _ f, ltb-true _ _ t, omega arith)

ends_fit_iff : (a : Arcs) (n : ℕ) → (ends_fit a n ≡ true) ↔ ((i : ℕ) → i < a.count → arc_fits a.columns n i ≡ true)
unfolding ends_fit
ends_fit_iff a n = (λ e i l. all_at a.count _ i e l, all_each a.count _)

-- The two counts fit, and what the columns hold fits.
abbrev pub counts_fit : Handed → Bool
counts_fit h = states_fit h && arcs_fit h.arcs

abbrev pub values_fit : Handed → Bool
values_fit h = accepting_fits h.states h.accepting && ends_fit h.arcs h.states

-- What `well_formed` tests is what 01 asks of an automaton.
pub well_formed_iff : (h : Handed) → (well_formed h ≡ true) ↔ WellFormedAutomaton h
unfolding well_formed
well_formed_iff h = (forth, back)
  where
    ends : ends_fit h.arcs h.states ≡ true → (i : ℕ) → i < h.arcs.count
        → (get_or h.arcs.columns.from i 0 < h.states) × (get_or h.arcs.columns.to i 0 < h.states) × (0 < get_or h.arcs.columns.letter i 0)
    ends e i l = (arc_fits_iff h.arcs.columns h.states i).0 ((ends_fit_iff h.arcs h.states).0 e i l)

    forth : (counts_fit h && values_fit h) ≡ true → WellFormedAutomaton h
    forth e =
        let (counts, values) = (and-eq-true_iff (counts_fit h) (values_fit h)).0 e in
        let (states, arcs) = (and-eq-true_iff (states_fit h) (arcs_fit h.arcs)).0 counts in
        let (flags, fit) = (and-eq-true_iff (accepting_fits h.states h.accepting) (ends_fit h.arcs h.states)).0 values in
        let (some, few, long) = (states_fit_iff h).0 states in
        let (arcs_long, few_arcs) = (arcs_fit_iff h.arcs).0 arcs in
        record {
          some_state = some;
          few_states = few;
          accepting_long = long;
          arcs_long = arcs_long;
          few_arcs = few_arcs;
          accepting_value = (accepting_fits_iff h.states h.accepting).0 flags;
          from_below = λ i l. (ends fit i l).0;
          to_below = λ i l. (ends fit i l).1;
          letter_some = λ i l. (ends fit i l).2;
        }

    back : WellFormedAutomaton h → (counts_fit h && values_fit h) ≡ true
    back w =
        let states = (states_fit_iff h).1 (w.some_state, w.few_states, w.accepting_long) in
        let arcs = (arcs_fit_iff h.arcs).1 (w.arcs_long, w.few_arcs) in
        let flags = (accepting_fits_iff h.states h.accepting).1 w.accepting_value in
        let fit : (i : ℕ) → i < h.arcs.count → arc_fits h.arcs.columns h.states i ≡ true =
        λ i l. (arc_fits_iff h.arcs.columns h.states i).1 (w.from_below i l, w.to_below i l, w.letter_some i l) in
        rw (states, arcs, flags) ((ends_fit_iff h.arcs h.states).1 fit)

-- ---- Refusal 11

pub short_iff : (k : Work) (n : ℕ) → (short k n ≡ false) ↔ LongEnough k n
unfolding short
short_iff k n = (
  λ e.
      let current = ltb (length k.current) (words n) in
      record { current = ltb-false _ _ (or_left current _ e); next = ltb-false _ _ (or_right current _ e) },
  λ l. rw (le-ltb _ _ l.current, le-ltb _ _ l.next),
)

-- ---- The refusal

-- The refusal that the answers of the three tests give.
abbrev pub ordered : (even good few : Bool) → Refusal
ordered even good few =
    cond (not even) (refusal columns_differ 0) (cond (not good) (refusal automaton_malformed 0) (cond few (refusal work_short 0) success))

well_formed_by : (h : Handed) {counts values : Bool} → counts_fit h ≡ counts → values_fit h ≡ values → well_formed h ≡ (counts && values)
unfolding well_formed
well_formed_by h c v = ap₂ ◌&&◌ c v

module _ (h : Handed) (k : Work) where
  pub refusal_by : {even good few : Bool} → even_arcs h.arcs.columns ≡ even → well_formed h ≡ good → short k h.states ≡ few
      → matcher_refusal h k ≡ ordered even good few
  unfolding matcher_refusal
  refusal_by e g s = λ i. ordered (e i) (g i) (s i)

  -- The number, as it is found test by test.
  pub numbered : {even counts values few : Bool} → even_arcs h.arcs.columns ≡ even → counts_fit h ≡ counts → values_fit h ≡ values
      → short k h.states ≡ few → (ordered even (counts && values) few).number ≡ (matcher_refusal h k).number
  numbered e c v s = sym (ap (λ (r : Refusal). r.number) (refusal_by e (well_formed_by h c v) s))

  -- Refusals 1, 10 and 11 have place 0.
  pub place_zero : (matcher_refusal h k).place ≡ 0
  place_zero = ap (λ (r : Refusal). r.place) (refusal_by refl refl refl) ∙ go (even_arcs h.arcs.columns) (well_formed h) (short k h.states)
    where
      go : (even good few : Bool) → (ordered even good few).place ≡ 0
      go false good few = refl
      go true false few = refl
      go true true true = refl
      go true true false = refl

  pub not_refused : (matcher_refusal h k).number ≡ 0 → EvenArcs h.arcs.columns × WellFormedAutomaton h × LongEnough k h.states
  not_refused z =
      go (even_arcs h.arcs.columns) (well_formed h) (short k h.states) refl refl refl
      (sym (ap (λ (r : Refusal). r.number) (refusal_by refl refl refl)) ∙ z)
    where
      go : (even good few : Bool) → even_arcs h.arcs.columns ≡ even → well_formed h ≡ good → short k h.states ≡ few
          → (ordered even good few).number ≡ 0 → EvenArcs h.arcs.columns × WellFormedAutomaton h × LongEnough k h.states
      go true true false e g s q = ((even_arcs_iff h.arcs.columns).0 e, (well_formed_iff h).0 g, (short_iff k h.states).0 s)
      go true true true e g s q = absurd (omega arith)
      go true false few e g s q = absurd (omega arith)
      go false good few e g s q = absurd (omega arith)
