-- States and arcs are those of all that is met, in 01's order, and what stands after a part of it begins what stands at the end. Leans on
-- `States`.
use Prim.Native.Nat.{ℕ, zero, suc, ◌+◌, ◌≤◌, ◌<◌}
use native.Mathlib.Nat.{add-suc, add-zero, zero-add, suc-add}
use native.Mathlib.Numerals.{one-add}
use native.Mathlib.Decide.{le_ind}
use native.Mathlib.Omega.{arith}
use mathlib.Core.Path.{◌≡◌, refl, sym, ap, ap₂, ◌∙◌}
use mathlib.Core.List.{List, [], ◌∷◌, ◌++◌, map, flat_map, append_assoc, append-nil, map-append, map-map, Memᴰ}
use lib.ListN.{length, get_or, take}
use lib.Seq.{take-suc, length-take-le}
use Rattle.theory.specs.Expression.{Expression, ∅, same}
use Rattle.theory.specs.Distinct.{distinct, beyond}
use Rattle.theory.specs.Derivative.{derivative}
use Rattle.theory.proofs.Distinct.{distinct_append, distinct_known, distinct_new, distinct_of, to_distinct}
use Rattle.theory.proofs.Members.{map_same, flat_map_append}
use Rattle.theory.proofs.States.{Begins, states_complete}
use Rattle.theory.specs.Automaton.{ascending, alphabet, successors, met, states, leaving, leaving_all, arcs}
use Rattle.theory.specs.Limit.{last_letter}
use Rattle.theory.specs.Meetings.{Meeting, meeting, by_letters, by_states, before, meetings, targets, so_far, to_arc}

-- ---- Arcs and states from what is met

map_flat_map : {A B C : Type 0} (g : B → C) (f : A → List B) (xs : List A) → map g (flat_map f xs) ≡ flat_map (λ x. map g (f x)) xs
unfolding flat_map
map_flat_map g f [] = refl
map_flat_map g f (x ∷ xs) = map-append g (f x) (flat_map f xs) ∙ ap (λ ys. map g (f x) ++ ys) (map_flat_map g f xs)

flat_map_cong : {A B : Type 0} (f g : A → List B) (xs : List A) → ((x : A) → f x ≡ g x) → flat_map f xs ≡ flat_map g xs
unfolding flat_map
flat_map_cong f g [] h = refl
flat_map_cong f g (x ∷ xs) h = ap₂ ◌++◌ (h x) (flat_map_cong f g xs h)

leaving_met : (s : List Expression) (i : ℕ) (x : Expression) → leaving s i x ≡ map (to_arc s) (by_letters i x alphabet)
unfolding leaving by_letters
leaving_met s i x =
    sym (map_flat_map (to_arc s) (λ a. map (meeting i a) (derivative a x)) alphabet
    ∙ flat_map_cong _ _ alphabet (λ a. map-map (to_arc s) (meeting i a) (derivative a x)))

all_leaving_met : (s : List Expression) (i : ℕ) (xs : List Expression) → leaving_all s i xs ≡ map (to_arc s) (by_states i xs)
unfolding leaving_all by_states
all_leaving_met s i [] = refl
all_leaving_met s i (x ∷ xs) =
    ap₂ ◌++◌ (leaving_met s i x) (all_leaving_met s (suc i) xs) ∙ sym (map-append (to_arc s) (by_letters i x alphabet) (by_states (suc i) xs))

-- 01: "Arcs stand in the order met."
pub arcs_met : (e : Expression) → arcs e ≡ map (to_arc (states e)) (meetings e)
unfolding arcs
arcs_met e = all_leaving_met (states e) 0 (states e)

letters_targets : (i : ℕ) (x : Expression) → targets (by_letters i x alphabet) ≡ successors x
unfolding by_letters successors
letters_targets i x =
    map_flat_map (λ (m : Meeting). m.target) (λ a. map (meeting i a) (derivative a x)) alphabet
    ∙ flat_map_cong _ _ alphabet (λ a. map-map (λ (m : Meeting). m.target) (meeting i a) (derivative a x) ∙ map_same (λ m. m) (λ m. refl) (derivative a x))

states_targets : (i : ℕ) (xs : List Expression) → targets (by_states i xs) ≡ flat_map successors xs
unfolding by_states flat_map
states_targets i [] = refl
states_targets i (x ∷ xs) =
    map-append (λ (m : Meeting). m.target) (by_letters i x alphabet) (by_states (suc i) xs)
    ∙ ap₂ ◌++◌ (letters_targets i x) (states_targets (suc i) xs)

pub so_far_met : (e : Expression) (xs : List Expression) → so_far e (by_states 0 xs) ≡ met e xs
unfolding so_far met
so_far_met e xs = ap (λ ys. distinct same (e ∷ ys)) (states_targets 0 xs)

pub states_met : (e : Expression) → so_far e (meetings e) ≡ states e
states_met e = so_far_met e (states e) ∙ states_complete e

-- ---- A part of what is met

-- What stands so far begins what stands later.
pub so_far_begins : (e : Expression) (done rest : List Meeting) → Begins (so_far e done) (so_far e (done ++ rest))
unfolding so_far
so_far_begins e done rest =
    record {
      rest = beyond same (e ∷ targets done) (distinct same (targets rest));
      goes_on =
          ap (λ ys. distinct same (e ∷ ys)) (map-append (λ (m : Meeting). m.target) done rest)
          ∙ distinct_append same (e ∷ targets done) (targets rest);
    }

pub so_far_known : (e : Expression) (done : List Meeting) (m : Meeting) → Memᴰ m.target (so_far e done)
    → so_far e (done ++ (m ∷ [])) ≡ so_far e done
unfolding so_far
so_far_known e done m k =
    ap (λ ys. distinct same (e ∷ ys)) (map-append (λ (x : Meeting). x.target) done (m ∷ []))
    ∙ distinct_known same (e ∷ targets done) m.target (distinct_of same (e ∷ targets done) m.target k)

pub so_far_new : (e : Expression) (done : List Meeting) (m : Meeting) → (Memᴰ m.target (so_far e done) → ⊥)
    → so_far e (done ++ (m ∷ [])) ≡ so_far e done ++ (m.target ∷ [])
unfolding so_far
so_far_new e done m n =
    ap (λ ys. distinct same (e ∷ ys)) (map-append (λ (x : Meeting). x.target) done (m ∷ []))
    ∙ distinct_new same (e ∷ targets done) m.target (λ k. n (to_distinct same (e ∷ targets done) m.target k))

-- ---- In 01's order

pub ascending_more : (first n : ℕ) → ascending first (suc n) ≡ ascending first n ++ ((first + n) ∷ [])
unfolding ascending
ascending_more first zero = ap (λ (k : ℕ). k ∷ []) (sym (add-zero first))
ascending_more first (suc n) =
    ap {B = List ℕ} (λ (t : List ℕ). first ∷ t)
    (ascending_more (suc first) n ∙ ap (λ (k : ℕ). ascending (suc first) n ++ (k ∷ [])) (suc-add first n ∙ sym (add-suc first n)))

pub ascending_split : (first m n : ℕ) → ascending first (m + n) ≡ ascending first m ++ ascending (first + m) n
unfolding ascending
ascending_split first zero n = ap₂ ascending (sym (add-zero first)) (zero-add n)
ascending_split first (suc m) n =
    ap (ascending first) (suc-add m n)
    ∙ ap {B = List ℕ} (λ (t : List ℕ). first ∷ t)
    (ascending_split (suc first) m n ∙ ap (λ (k : ℕ). ascending (suc first) m ++ ascending k n) (suc-add first m ∙ sym (add-suc first m)))

pub by_letters_append : (i : ℕ) (x : Expression) (us vs : List ℕ) → by_letters i x (us ++ vs) ≡ by_letters i x us ++ by_letters i x vs
unfolding by_letters
by_letters_append i x us vs = flat_map_append (λ a. map (meeting i a) (derivative a x)) us vs

pub by_states_append : (i : ℕ) (xs ys : List Expression) → by_states i (xs ++ ys) ≡ by_states i xs ++ by_states (i + length xs) ys
unfolding by_states
by_states_append i [] ys = ap (λ (k : ℕ). by_states k ys) (sym (add-zero i))
by_states_append i (x ∷ xs) ys =
    ap (λ ms. by_letters i x alphabet ++ ms)
    (by_states_append (suc i) xs ys ∙ ap (λ (k : ℕ). by_states (suc i) xs ++ by_states k ys) (suc-add i (length xs) ∙ sym (add-suc i (length xs))))
    ∙ sym (append_assoc (by_letters i x alphabet) (by_states (suc i) xs) (by_states (i + suc (length xs)) ys))

-- One letter more.
pub before_letter : (e : Expression) (i a : ℕ)
    → before e i (suc a) ≡ before e i a ++ map (meeting i (suc a)) (derivative (suc a) (get_or (states e) i ∅))
unfolding before by_letters flat_map
before_letter e i a =
    let x = get_or (states e) i ∅ in
    let earlier = by_states 0 (take i (states e)) in
    let more = map (meeting i (suc a)) (derivative (suc a) x) in
    ap (λ ls. earlier ++ by_letters i x ls) (ascending_more 1 a ∙ ap (λ (k : ℕ). ascending 1 a ++ (k ∷ [])) (one-add a))
    ∙ ap (λ ms. earlier ++ ms) (by_letters_append i x (ascending 1 a) (suc a ∷ []) ∙ ap (λ ms. by_letters i x (ascending 1 a) ++ ms) (append-nil more))
    ∙ sym (append_assoc earlier (by_letters i x (ascending 1 a)) more)

-- Letters by which nothing is met may be left out.
pub before_skip : (e : Expression) (i a b : ℕ) → a ≤ b → ((k : ℕ) → a < k → k ≤ b → derivative k (get_or (states e) i ∅) ≡ []) → before e i b ≡ before e i a
before_skip e i a b l h =
    le_ind (λ (c : ℕ). ((k : ℕ) → a < k → k ≤ c → derivative k (get_or (states e) i ∅) ≡ []) → before e i c ≡ before e i a) (λ _. refl)
    (λ c ac ih none.
    before_letter e i c ∙ ap (λ ms. before e i c ++ map (meeting i (suc c)) ms) (none (suc c) (omega arith) (omega arith)) ∙ append-nil (before e i c)
    ∙ ih (λ k ak kc. none k ak (omega arith)))
    b l h

-- The next state.
pub before_state : (e : Expression) (i : ℕ) → i < length (states e) → before e i last_letter ≡ before e (suc i) 0
unfolding before by_states by_letters flat_map alphabet ascending
before_state e i l =
    sym (append-nil (by_states 0 (take (suc i) (states e)))
    ∙ ap (by_states 0) (take-suc (states e) i ∅ l)
    ∙ by_states_append 0 (take i (states e)) (get_or (states e) i ∅ ∷ [])
    ∙ ap (λ ms. by_states 0 (take i (states e)) ++ ms)
    (append-nil (by_letters (0 + length (take i (states e))) (get_or (states e) i ∅) alphabet)
    ∙ ap (λ (k : ℕ). by_letters k (get_or (states e) i ∅) alphabet) (zero-add _ ∙ length-take-le i (states e) (omega arith))))
