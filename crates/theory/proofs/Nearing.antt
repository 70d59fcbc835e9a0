-- What a builder that goes through the meetings in 01's order may conclude on the way and at the end: numbers already given stay, needs
-- only grow, and where every state was left nothing is missing. Leans on `Meetings` and `States`.
use Prim.Native.Nat.{ℕ, suc, ◌+◌, ◌-◌, ◌≤◌, ◌<◌}
use native.Mathlib.Nat.{le_trans, lt_of_lt_of_le, le_of_eq, le-add_right, zero-add}
use native.Mathlib.Omega.{arith}
use mathlib.Core.Path.{◌≡◌, refl, sym, ap, ◌∙◌, subst}
use mathlib.Core.List.Memᴰ
use mathlib.Core.List.{List, [], ◌∷◌, ◌++◌, map, flat_map, append_assoc, append-nil, map-append, Memᴰ}
use lib.ListN.{length, get_or, take, drop, length-map, length-append, get_or-append}
use lib.Seq.{take-append_seam, split_at, length-take-le}
use Rattle.theory.specs.Expression.{Expression, ∅, ε, same, parts, letters}
use Rattle.theory.specs.Distinct.{place, Within}
use Rattle.theory.specs.Derivative.{derivative}
use Rattle.theory.specs.Automaton.{ascending, alphabet, met, states, arcs, expressions}
use Rattle.theory.specs.Needs.{empty, part}
use Rattle.theory.proofs.Distinct.{place_of}
use Rattle.theory.proofs.States.{Begins, states_no_repeats, states_only, states_derived}
use Rattle.theory.proofs.Needs.{counted}
use Rattle.theory.proofs.Bounds.{states_support}
use Rattle.theory.proofs.Bounds.Letters.{derivative_letter, support_letters}
use Rattle.theory.specs.Meetings.{Meeting, meeting, by_letters, by_states, before, meetings, Starts, to_arc, so_far}
use Rattle.theory.specs.Limit.{last_letter}
use Rattle.theory.proofs.Meetings.{so_far_begins, states_met, arcs_met, so_far_met, before_letter, ascending_split, by_letters_append, by_states_append}

module _ {e : Expression} {done : List Meeting} (s : Starts e done) where
  -- The states so far are the first states.
  pub states_begin : Begins (so_far e done) (states e)
  states_begin = subst (Begins (so_far e done)) (ap (so_far e) (sym s.goes_on) ∙ states_met e) (so_far_begins e done s.rest)

  pub state_number : (i : ℕ) (d : Expression) → i < length (so_far e done) → place same (get_or (so_far e done) i d) (states e) ≡ i
  state_number i d l =
      let b = states_begin in
      let at : get_or (states e) i d ≡ get_or (so_far e done) i d = ap (λ xs. get_or xs i d) b.goes_on ∙ get_or-append (so_far e done) b.rest d i l in
      ap (λ x. place same x (states e)) (sym at)
      ∙ place_of same (states e) i d (states_no_repeats e)
      (lt_of_lt_of_le l (le_trans (le-add_right _ _) (le_of_eq (sym (ap length b.goes_on ∙ length-append (so_far e done) b.rest)))))

  pub states_enough : length (so_far e done) ≤ length (states e)
  states_enough = let b = states_begin in omega (arith, ap length b.goes_on, length-append (so_far e done) b.rest)

  pub arcs_enough : length done ≤ length (arcs e)
  arcs_enough =
      omega (arith, ap length (arcs_met e), length-map (meetings e) (to_arc (states e)), ap length s.goes_on, length-append done s.rest)

-- One meeting more: the arc to it is needed.
pub arcs_needed : {e : Expression} (done : List Meeting) (m : Meeting) → Starts e (done ++ (m ∷ [])) → length done < length (arcs e)
arcs_needed done m s = let l = arcs_enough s in omega (arith, length-append done (m ∷ []))

-- ---- Where the meetings begin

letters_split : (a : ℕ) → a ≤ last_letter → alphabet ≡ ascending 1 a ++ ascending (1 + a) (last_letter - a)
unfolding alphabet
letters_split a h = let q : last_letter ≡ a + (last_letter - a) = omega arith in ap (ascending 1) q ∙ ascending_split 1 a (last_letter - a)

pub starts_before : (e : Expression) (i a : ℕ) → i < length (states e) → a ≤ last_letter → Starts e (before e i a)
unfolding before by_states
starts_before e i a l h =
    let x = get_or (states e) i ∅ in
    let later = drop (suc i) (states e) in
    let more = by_letters i x (ascending (1 + a) (last_letter - a)) ++ by_states (suc i) later in
    record {
      rest = more;
      goes_on =
          ap (by_states 0) (split_at (states e) i ∅ l)
          ∙ by_states_append 0 (take i (states e)) (x ∷ later)
          ∙ ap (λ ms. by_states 0 (take i (states e)) ++ ms)
          (ap (λ (k : ℕ). by_states k (x ∷ later)) (zero-add _ ∙ length-take-le i (states e) (omega arith))
          ∙ ap (λ ls. by_letters i x ls ++ by_states (suc i) later) (letters_split a h)
          ∙ ap (λ ms. ms ++ by_states (suc i) later) (by_letters_append i x (ascending 1 a) (ascending (1 + a) (last_letter - a)))
          ∙ append_assoc (by_letters i x (ascending 1 a)) (by_letters i x (ascending (1 + a) (last_letter - a))) (by_states (suc i) later))
          ∙ sym (append_assoc (by_states 0 (take i (states e))) (by_letters i x (ascending 1 a)) more);
    }

-- A member of the list by letter a of state i is met.
pub starts_member : (e : Expression) (i a : ℕ) (ms rest : List Expression) → i < length (states e) → suc a ≤ last_letter
    → derivative (suc a) (get_or (states e) i ∅) ≡ ms ++ rest → Starts e (before e i a ++ map (meeting i (suc a)) ms)
starts_member e i a ms rest l h q =
    let s = starts_before e i (suc a) l h in
    let by = meeting i (suc a) in
    record {
      rest = map by rest ++ s.rest;
      goes_on =
          s.goes_on
          ∙ ap (λ xs. xs ++ s.rest)
          (before_letter e i a ∙ ap (λ xs. before e i a ++ map by xs) q ∙ ap (λ xs. before e i a ++ xs) (map-append by ms rest)
          ∙ sym (append_assoc (before e i a) (map by ms) (map by rest)))
          ∙ append_assoc (before e i a ++ map by ms) (map by rest) s.rest;
    }

-- ---- Letters that are not used

-- By a letter that e does not use nothing is met.
pub unused_nothing : (e x : Expression) (a : ℕ) → Memᴰ x (states e) → (Memᴰ a (letters e) → ⊥) → derivative a x ≡ []
unused_nothing e x a m n = none (derivative a x) (λ z k. n (support_letters e x (states_support e x m) a (derivative_letter a x z k)))
  where
    none : (xs : List Expression) → ((z : Expression) → Memᴰ z xs → ⊥) → xs ≡ []
    none [] h = refl
    none (z ∷ xs) h = absurd (h z (Memᴰ.head refl))

-- ---- Rows that are needed

-- Every part of a state is needed.
pub parts_needed : (e x : Expression) → Memᴰ x (states e) → Within (parts x) (expressions e)
parts_needed e x m z p = ((counted e).expressions z).1 (part m p)

pub ε_needed : (e : Expression) → Memᴰ ε (expressions e)
ε_needed e = ((counted e).expressions ε).1 (empty refl)

-- ---- The end

-- Where as many states were left as there are so far, all is met.
pub all_left : (e : Expression) (i : ℕ) → Starts e (before e i 0) → i ≡ length (so_far e (before e i 0)) → before e i 0 ≡ meetings e
unfolding before by_letters flat_map ascending
all_left e i s q =
    let b = states_begin s in
    let ss = so_far e (before e i 0) in
    let first : take i (states e) ≡ ss = ap (λ xs. take i xs) b.goes_on ∙ ap (λ (k : ℕ). take k (ss ++ b.rest)) q ∙ take-append_seam ss b.rest in
    let whole : before e i 0 ≡ by_states 0 ss = append-nil (by_states 0 (take i (states e))) ∙ ap (by_states 0) first in
    let closed : met e ss ≡ ss = sym (so_far_met e ss) ∙ ap (so_far e) (sym whole) in
    let same_states : ss ≡ states e =
    states_only e ss closed (λ m k. states_derived e m (subst (Memᴰ m) (sym b.goes_on) (Memᴰ.append_left b.rest k))) in
    whole ∙ ap (by_states 0) same_states
