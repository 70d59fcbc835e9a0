-- 01's samples of output, computed. And state 0 is first in any nonempty listing: it is handled first, so where it has an arc, the first arc
-- leaves it; where it has none, it is the only state. Leans on `Meetings` and `States` of the theory.
use Prim.Native.Nat.{ℕ}
use mathlib.Core.Path.{◌≡◌, refl, sym, ap, ap₂, ◌∙◌, subst}
use mathlib.Core.Logic.{inl, inr}
use mathlib.Core.Bool.{Bool, true, false, cond}
use mathlib.Core.List.Memᴰ
use mathlib.Core.List.{List, [], ◌∷◌, ◌++◌, map, flat_map, append-nil, Memᴰ}
use lib.ListN.{length, get_or}
use lib.Dec.{eqb}
use Rattle.theory.specs.Expression.{Expression, same}
use Rattle.theory.specs.Distinct.{distinct, without, place}
use Rattle.theory.specs.Derivative.{derivative}
use Rattle.theory.specs.Automaton.{ascending, alphabet, states, itself, accepting, Arc, arc, arcs}
use Rattle.theory.specs.Meetings.{Meeting, meeting, by_letters, by_states, meetings, so_far, to_arc}
use Rattle.theory.specs.Record.{automaton, verdict, live}
use Rattle.theory.specs.Lines.{space, newline, decimal, number_and, arc_line, state_line, listing}
use Rattle.theory.proofs.Members.{flat_map_of}
use Rattle.theory.proofs.States.{states_first, states_only}
use Rattle.theory.proofs.Meetings.{arcs_met, so_far_met}
use Rattle.promises.specs.Printed.{Printed, BeginsAtZero, State0First}

pub printed : Printed
unfolding listing decimal automaton verdict live
printed = record {
  two_letters = refl;
  listed_in_order = refl;
  empty_language = refl;
  empty_word = refl;
  whole = refl;
  start = refl;
  fault = refl;
  refused = refl;
}

-- ---- State 0 first

-- What is met from state i is from state i.
met_from : (i : ℕ) (x : Expression) (ls : List ℕ) {m : Meeting} → Memᴰ m (by_letters i x ls) → m.from ≡ i
unfolding by_letters
met_from i x ls h =
    let (a, _, k) = flat_map_of (λ a. map (meeting i a) (derivative a x)) ls h in
    let (_, _, q) = Memᴰ.of_map (meeting i a) (derivative a x) k in
    sym (ap (λ (m : Meeting). m.from) q)

abbrev arc_lines : List Arc → List ℕ
arc_lines zs = flat_map (λ (z : Arc). arc_line z.from z.to z.letter) zs

module _ (e : Expression) where
  -- The lines of the accepting states among the first n.
  abbrev state_lines : ℕ → List ℕ
  state_lines n = flat_map (λ s. cond (eqb (get_or (accepting e) s 0) 1) (state_line s) []) (ascending 0 n)

  -- Where something is met from state 0, the first of all arcs leaves it.
  first_arc : (m : Meeting) (ms : List Meeting) → by_letters 0 e alphabet ≡ m ∷ ms → (j a : ℕ) × (zs : List Arc) × (arcs e ≡ arc 0 a j ∷ zs)
  unfolding by_states
  first_arc m ms q =
      let s = states e in
      let all = ms ++ by_states 1 (states_first e).rest in
      let met : meetings e ≡ m ∷ all = ap (by_states 0) (states_first e).goes_on ∙ ap (λ ns. ns ++ by_states 1 (states_first e).rest) q in
      let from : m.from ≡ 0 = met_from 0 e alphabet (subst (Memᴰ m) (sym q) (Memᴰ.head refl)) in (
        place same m.target s,
        m.letter,
        map (to_arc s) all,
        arcs_met e ∙ ap (map (to_arc s)) met ∙ ap (λ (i : ℕ). arc i m.letter (place same m.target s) ∷ map (to_arc s) all) from,
      )

  begins_by_arc : (j a : ℕ) (zs : List Arc) → arcs e ≡ arc 0 a j ∷ zs → BeginsAtZero (listing e)
  unfolding listing flat_map decimal
  begins_by_arc j a zs q = record {
    after = space;
    rest = ((number_and j space ++ number_and a newline) ++ arc_lines zs) ++ state_lines (length (states e));
    begins = ap (λ all. arc_lines all ++ state_lines (length (states e))) q;
    ends = inl refl;
  }

  -- Where nothing is met from state 0, it is the only state and has the only line, if it accepts.
  module _ (none : by_letters 0 e alphabet ≡ []) where
    none_met : by_states 0 (e ∷ []) ≡ []
    unfolding by_states
    none_met = append-nil (by_letters 0 e alphabet) ∙ none

    only_state : e ∷ [] ≡ states e
    unfolding so_far distinct without
    only_state = states_only e (e ∷ []) (sym (so_far_met e (e ∷ [])) ∙ ap (so_far e) none_met) (λ m h. itself (Memᴰ.eq_of_singleton h))

    no_arcs : arcs e ≡ []
    no_arcs = arcs_met e ∙ ap (map (to_arc (states e))) (ap (by_states 0) (sym only_state) ∙ none_met)

    only_line : listing e ≡ state_lines 1
    unfolding listing flat_map
    only_line = ap₂ (λ zs n. arc_lines zs ++ state_lines n) no_arcs (sym (ap length only_state))

    begins_by_state : ¬ (listing e ≡ []) → BeginsAtZero (listing e)
    unfolding flat_map ascending decimal
    begins_by_state some = go (eqb (get_or (accepting e) 0 0) 1) only_line
      where
        go : (b : Bool) → listing e ≡ cond b (state_line 0) [] ++ [] → BeginsAtZero (listing e)
        go true q = record { after = newline; rest = []; begins = q; ends = inr refl }
        go false q = absurd (some q)

  begins : ¬ (listing e ≡ []) → (ms : List Meeting) → by_letters 0 e alphabet ≡ ms → BeginsAtZero (listing e)
  begins some [] none = begins_by_state none some
  begins some (m ∷ ms) q = let (j, a, zs, first) = first_arc m ms q in begins_by_arc j a zs first

pub state_0_first : State0First
state_0_first = record { first = λ e some. begins e some (by_letters 0 e alphabet) refl }
