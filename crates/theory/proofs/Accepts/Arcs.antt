-- The arcs of an expression's automaton are 004's: from a state, by a letter of 01's alphabet, exactly to the members of its derivative by that
-- letter. Leans on `States`, and on `Bounds.Letters`: a derivative that has a member is by a letter of the expression.
use Prim.Native.Nat.{ℕ, zero, suc, ◌+◌, ◌≤◌, ◌<◌, zero-le, suc-le-suc}
use native.Mathlib.Nat.{eq-or-lt_of_le, le_of_suc-le-suc, not-suc-le-zero, add-suc, add-zero, zero-add, suc-add}
use native.Mathlib.Omega.{arith}
use mathlib.Core.Path.{◌≡◌, refl, sym, ap, ◌∙◌, subst}
use mathlib.Core.Logic.{◌↔◌, ⊎_elim}
use mathlib.Core.List.Memᴰ
use mathlib.Core.List.{List, [], ◌∷◌, map, Memᴰ}
use lib.ListN.{length, get_or}
use Rattle.theory.specs.Expression.{Expression, ∅, same}
use Rattle.theory.specs.Distinct.{place}
use Rattle.theory.specs.Derivative.{derivative}
use Rattle.theory.specs.Automaton.{ascending, alphabet, successors, states, Derived, Arc, arc, leaving, leaving_all, arcs}
use Rattle.theory.specs.Limit.{last_letter}
use Rattle.theory.specs.Needs.{Triple}
use Rattle.theory.proofs.Distinct.{get_or_member, place_below, at_place, place_of}
use Rattle.theory.proofs.Members.{to_flat_map, flat_map_of}
use Rattle.theory.proofs.States.{states_no_repeats, states_derived, derived_states, derived_support}
use Rattle.theory.proofs.Bounds.Letters.{derivative_letter, support_letters}
use Rattle.theory.proofs.WellFormed.{Lettered}

-- ---- The alphabet

to_ascending : (first n a : ℕ) → first ≤ a → a < first + n → Memᴰ a (ascending first n)
unfolding ascending
to_ascending first zero a l u = absurd (omega arith)
to_ascending first (suc n) a l u =
    ⊎_elim (λ e. Memᴰ.head (sym e)) (λ m. Memᴰ.tail (to_ascending (suc first) n a m (omega arith))) (eq-or-lt_of_le l)

ascending_of : (first n : ℕ) {a : ℕ} → Memᴰ a (ascending first n) → (first ≤ a) × (a < first + n)
unfolding ascending
ascending_of first zero h = absurd (Memᴰ.not-nil h)
ascending_of first (suc n) h =
    ⊎_elim (λ e. (omega arith, omega arith)) (λ t. let (l, u) = ascending_of (suc first) n t in (omega arith, omega arith)) (Memᴰ.cases_cons h)

-- 01: "letters from 1 to 255".
pub alphabet_iff : (a : ℕ) → Memᴰ a alphabet ↔ ((1 ≤ a) × (a ≤ last_letter))
unfolding alphabet
alphabet_iff a = (λ h. let (l, u) = ascending_of 1 last_letter h in (l, omega arith), λ (l, u). to_ascending 1 last_letter a l (omega arith))

-- ---- The arcs that leave states

-- z is an arc from state i, the expression x, to a member of its derivative among the states s.
pub record Leaves (s : List Expression) (i : ℕ) (x : Expression) (z : Arc) : Type 0 where
  pub from : z.from ≡ i
  pub letter : Memᴰ z.letter alphabet
  pub member : Expression
  pub derived : Memᴰ member (derivative z.letter x)
  pub to : z.to ≡ place same member s

leaving_of : (s : List Expression) (i : ℕ) (x : Expression) {z : Arc} → Memᴰ z (leaving s i x) → Leaves s i x z
unfolding leaving
leaving_of s i x h =
    let r = flat_map_of (λ a. map (λ m. arc i a (place same m s)) (derivative a x)) alphabet h in
    let q = Memᴰ.of_map (λ m. arc i r.0 (place same m s)) (derivative r.0 x) r.2 in
    subst (Leaves s i x) q.2 (record { from = refl; letter = r.1; member = q.0; derived = q.1; to = refl })

to_leaving : (s : List Expression) (i : ℕ) (x : Expression) {a : ℕ} {m : Expression} → Memᴰ a alphabet → Memᴰ m (derivative a x)
    → Memᴰ (arc i a (place same m s)) (leaving s i x)
unfolding leaving
to_leaving s i x {a} h k =
    to_flat_map (λ b. map (λ m. arc i b (place same m s)) (derivative b x)) h (Memᴰ.map (λ m. arc i a (place same m s)) k)

all_leaving_of : (s : List Expression) (i : ℕ) (xs : List Expression) {z : Arc} → Memᴰ z (leaving_all s i xs)
    → (k : ℕ) × (k < length xs) × Memᴰ z (leaving s (i + k) (get_or xs k ∅))
unfolding leaving_all
all_leaving_of s i [] h = absurd (Memᴰ.not-nil h)
all_leaving_of s i (x ∷ xs) {z} h =
    ⊎_elim (λ m. (0, suc-le-suc zero-le, subst (λ (j : ℕ). Memᴰ z (leaving s j x)) (sym (add-zero i)) m)) (λ m. later (all_leaving_of s (suc i) xs m))
    (Memᴰ.append_cases (leaving s i x) h)
  where
    later : (k : ℕ) × (k < length xs) × Memᴰ z (leaving s (suc i + k) (get_or xs k ∅))
        → (k : ℕ) × (k < suc (length xs)) × Memᴰ z (leaving s (i + k) (get_or (x ∷ xs) k ∅))
    later (k, l, m) = (suc k, suc-le-suc l, subst (λ (j : ℕ). Memᴰ z (leaving s j (get_or xs k ∅))) (suc-add i k ∙ sym (add-suc i k)) m)

to_all_leaving : (s : List Expression) (i : ℕ) (xs : List Expression) {z : Arc} (k : ℕ) → k < length xs → Memᴰ z (leaving s (i + k) (get_or xs k ∅))
    → Memᴰ z (leaving_all s i xs)
unfolding leaving_all
to_all_leaving s i [] k l m = absurd (not-suc-le-zero l)
to_all_leaving s i (x ∷ xs) {z} zero l m =
    Memᴰ.append_left (leaving_all s (suc i) xs) (subst (λ (j : ℕ). Memᴰ z (leaving s j x)) (add-zero i) m)
to_all_leaving s i (x ∷ xs) {z} (suc k) l m =
    Memᴰ.append_right (leaving s i x)
    (to_all_leaving s (suc i) xs k (le_of_suc-le-suc l) (subst (λ (j : ℕ). Memᴰ z (leaving s j (get_or xs k ∅))) (add-suc i k ∙ sym (suc-add i k)) m))

-- ---- The arcs of an expression

-- Arcs leave states alone, and are to members of the derivative of the state that they leave.
pub arcs_of : (e : Expression) {z : Arc} → Memᴰ z (arcs e)
    → (z.from < length (states e)) × Leaves (states e) z.from (get_or (states e) z.from ∅) z
unfolding arcs
arcs_of e {z} h =
    let r = all_leaving_of (states e) 0 (states e) h in
    let v = leaving_of (states e) (0 + r.0) (get_or (states e) r.0 ∅) r.2 in
    let i : r.0 ≡ z.from = sym (v.from ∙ zero-add r.0) in
    subst (λ (j : ℕ). (j < length (states e)) × Leaves (states e) j (get_or (states e) j ∅) z) i
    (r.1, record { from = sym i; letter = v.letter; member = v.member; derived = v.derived; to = v.to })

module _ (e : Expression) (i : ℕ) (l : i < length (states e)) (a : ℕ) (h : Memᴰ a alphabet) (m : Expression)
    (d : Memᴰ m (derivative a (get_or (states e) i ∅))) where
  -- The members of a state's derivative are states.
  pub member_state : Memᴰ m (states e)
  unfolding successors
  member_state =
      let x = get_or (states e) i ∅ in
      derived_states (Derived.onward (states_derived e x (get_or_member (states e) i ∅ l)) (to_flat_map (λ b. derivative b x) h d))

  -- And there is an arc to each.
  pub to_arcs : Memᴰ (arc i a (place same m (states e))) (arcs e)
  unfolding arcs
  to_arcs = to_all_leaving (states e) 0 (states e) i l (rw (zero-add i) (to_leaving (states e) i (get_or (states e) i ∅) h d))

-- Each letter by which a state's derivative has a member is one of the alphabet.
pub in_alphabet : (e : Expression) → Lettered e → (i : ℕ) → i < length (states e) → (a : ℕ) (m : Expression)
    → Memᴰ m (derivative a (get_or (states e) i ∅)) → Memᴰ a alphabet
in_alphabet e good i l a m h =
    let x = get_or (states e) i ∅ in
    (alphabet_iff a).1 (good a (support_letters e x (derived_support (states_derived e x (get_or_member (states e) i ∅ l))) a (derivative_letter a x m h)))

-- Arcs end at states, and their letters are of the alphabet.
pub arcs_end : (e : Expression) {z : Arc} → Memᴰ z (arcs e)
    → (z.from < length (states e)) × (z.to < length (states e)) × (1 ≤ z.letter) × (z.letter ≤ last_letter)
arcs_end e {z} h =
    let (l, v) = arcs_of e h in
    let s = member_state e z.from l z.letter v.letter v.member v.derived in
    let r = (alphabet_iff z.letter).0 v.letter in
    (l, subst (λ (n : ℕ). n < length (states e)) (sym v.to) (place_below same v.member (states e) s), r.0, r.1)

-- The arcs are 01's triples.
pub triple_iff : (e : Expression) (i a j : ℕ) → Memᴰ (arc i a j) (arcs e) ↔ Triple e i a j
triple_iff e i a j = (forth, back)
  where
    forth : Memᴰ (arc i a j) (arcs e) → Triple e i a j
    forth h =
        let (from, to, low, high) = arcs_end e h in
        let v = (arcs_of e h).1 in
        let there : get_or (states e) j ∅ ≡ v.member =
        ap (λ (n : ℕ). get_or (states e) n ∅) v.to ∙ at_place same v.member (states e) ∅ (member_state e i from a v.letter v.member v.derived) in
        record { from = from; low = low; high = high; to = to; member = Memᴰ.cast there v.derived }

    back : Triple e i a j → Memᴰ (arc i a j) (arcs e)
    back t =
        subst (λ (n : ℕ). Memᴰ (arc i a n) (arcs e)) (place_of same (states e) j ∅ (states_no_repeats e) t.to)
        (to_arcs e i t.from a ((alphabet_iff a).1 (t.low, t.high)) (get_or (states e) j ∅) t.member)
