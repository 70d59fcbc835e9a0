-- The automaton of an expression in columns that are longer than it needs, zero beyond it: what `build` leaves and `judge` is handed. The
-- columns are even and well-formed, and hold the automaton. Leans on `Accepts`.
use Prim.Native.Nat.{ℕ, ◌≤◌, ◌<◌}
use native.Mathlib.Nat.{le_trans, le_of_eq}
use mathlib.Core.Path.{◌≡◌, refl, sym, ap, ◌∙◌}
use mathlib.Core.List.Memᴰ
use mathlib.Core.List.{List, map, Memᴰ}
use lib.ListN.{length, get_or, length-map, get_or-map}
use Rattle.theory.specs.Expression.{Expression}
use Rattle.theory.specs.Column.{filled}
use Rattle.theory.specs.Limit.{most_states, most_arcs}
use Rattle.theory.specs.Automaton.{Arc, arc, states, accepting, arcs}
use Rattle.theory.specs.Arcs.{ArcColumns, EvenArcs, filled_arcs, arc_at}
use Rattle.theory.specs.Record.{Handed, handed, WellFormedAutomaton}
use Rattle.theory.proofs.Distinct.{get_or_member}
use Rattle.theory.proofs.Column.{get_or_filled, filled_length, filled_holds}
use Rattle.theory.proofs.States.{states_some}
use Rattle.theory.proofs.Arcs.{used_are}
use Rattle.theory.proofs.Accepts.{accepting_length, accepting_value, IsAutomaton}
use Rattle.theory.proofs.Accepts.Arcs.{arcs_end}

-- ---- Arcs in filled columns

module _ (c : ArcColumns) (zs : List Arc) where
  arc_at_filled : (i : ℕ) → arc_at (filled_arcs c zs) i ≡ get_or zs i (arc 0 0 0)
  arc_at_filled i =
      λ k. arc (column (λ (z : Arc). z.from) (length c.from) refl k) (column (λ (z : Arc). z.letter) (length c.letter) refl k)
      (column (λ (z : Arc). z.to) (length c.to) refl k)
    where
      column : (field : Arc → ℕ) (n : ℕ) → 0 ≡ field (arc 0 0 0) → get_or (filled n (map field zs)) i 0 ≡ field (get_or zs i (arc 0 0 0))
      column field n d = get_or_filled n (map field zs) i ∙ ap (get_or (map field zs) i) d ∙ get_or-map field zs i (arc 0 0 0)

  -- Columns that are equally long stay so.
  pub filled_even : EvenArcs c → length zs ≤ length c.from → EvenArcs (filled_arcs c zs)
  filled_even v l = record { letter = column (λ (z : Arc). z.letter) v.letter; to = column (λ (z : Arc). z.to) v.to }
    where
      column : (field : Arc → ℕ) {n : ℕ} → n ≡ length c.from
          → length (filled n (map field zs)) ≡ length (filled (length c.from) (map (λ (z : Arc). z.from) zs))
      column field {n} q =
          filled_length n (map field zs) (rw (length-map, q) l) ∙ q
          ∙ sym (filled_length (length c.from) (map (λ (z : Arc). z.from) zs) (rw length-map l))

-- ---- The automaton in filled columns

module _ (e : Expression) (n : ℕ) (c : ArcColumns) where
  abbrev pub filled_up : Handed
  filled_up = handed (length (states e)) (filled n (accepting e)) (length (arcs e)) (filled_arcs c (arcs e))

  arc_there : (i : ℕ) → i < length (arcs e) → Memᴰ (arc_at (filled_arcs c (arcs e)) i) (arcs e)
  arc_there i l = Memᴰ.cast (arc_at_filled c (arcs e) i) (get_or_member (arcs e) i (arc 0 0 0) l)

  pub filled_well_formed : length (states e) ≤ most_states → length (arcs e) ≤ most_arcs → WellFormedAutomaton filled_up
  filled_well_formed few_states few_arcs =
      let from = map (λ (z : Arc). z.from) (arcs e) in
      record {
        some_state = states_some e;
        few_states = few_states;
        accepting_long = le_trans (le_of_eq (sym (accepting_length e))) (filled_holds n (accepting e));
        arcs_long = le_trans (le_of_eq (sym (length-map (arcs e) (λ (z : Arc). z.from)))) (filled_holds (length c.from) from);
        few_arcs = few_arcs;
        accepting_value = λ t _. rw (get_or_filled n (accepting e) t) (accepting_value e t);
        from_below = λ i l. (arcs_end e (arc_there i l)).0;
        to_below = λ i l. (arcs_end e (arc_there i l)).1;
        letter_some = λ i l. (arcs_end e (arc_there i l)).2;
      }

  pub filled_is : IsAutomaton e filled_up
  filled_is = record {
    as_many = refl;
    flags = λ t _. get_or_filled n (accepting e) t;
    arcs = used_are (filled_arcs c (arcs e)) (arcs e) (arc_at_filled c (arcs e));
  }
