-- The three bounds on what an automaton needs, for every expression: its states, its expressions and its arcs. Leans on `States`: the states are
-- members of the support or the expression itself.
pub mod Letters
pub mod Parts
use Prim.Native.Nat.{ℕ, zero, suc, ◌+◌, ◌*◌, ◌^◌, ◌≤◌, zero-le}
use native.Mathlib.Nat.{le_trans, le_refl, le_of_eq, mul-le-mul, mul_left_comm, suc-mul, mul-add, add-mul, two-pow-succ, pow-succ'}
use native.Mathlib.Decide.{ℕ_discrete}
use native.Mathlib.Omega.{arith}
use mathlib.Core.Path.{◌≡◌, refl, ap, ◌∙◌}
use mathlib.Core.Logic.{⊎_elim}
use mathlib.Core.List.Memᴰ
use mathlib.Core.List.{List, [], ◌∷◌, map, flat_map, Memᴰ}
use lib.ListN.{length, length-append, length-map}
use Rattle.theory.specs.Limit.{last_letter}
use Rattle.theory.specs.Expression.{Expression, same, ε, letters, entries, parts}
use Rattle.theory.specs.Distinct.{place, NoRepeats, Within}
use Rattle.theory.specs.Derivative.{derivative}
use Rattle.theory.specs.Automaton.{ascending, alphabet, states, expressions, arc, leaving, leaving_all, arcs}
use Rattle.theory.proofs.Distinct.{distinct_of, distinct_no_repeats, no_longer}
use Rattle.theory.proofs.Derivative.{derivative_no_repeats}
use Rattle.theory.proofs.Members.{flat_map_of, length_flat_map_among}
use Rattle.theory.proofs.Support.{support, stays, support_stays, support_bound}
use Rattle.theory.proofs.States.{derived_support, derived_bound, states_derived, states_no_repeats}
use Rattle.theory.proofs.Bounds.Letters.{derivative_letter, support_letters}
use Rattle.theory.proofs.Bounds.Parts.{cover, cover_ε, parts_cover, cover_bound}

pub states_bound : (e : Expression) → length (states e) ≤ 2 ^ length (letters e)
states_bound e = derived_bound e (states e) (states_no_repeats e) (states_derived e)

pub states_support : (e : Expression) → Within (states e) (e ∷ support e)
states_support e m h = derived_support (states_derived e m h)

-- ---- Expressions

pub expressions_bound : (e : Expression) → length (expressions e) ≤ entries e * 2 ^ length (letters e) + 1
unfolding expressions
expressions_bound e = le_trans (no_longer same (expressions e) (cover e) (distinct_no_repeats same (ε ∷ flat_map parts (states e))) within) (cover_bound e)
  where
    within : Within (expressions e) (cover e)
    within z h =
        ⊎_elim (cover_ε e z) (λ t. let r = flat_map_of parts (states e) t in parts_cover e r.0 (states_support e r.0 r.1) z r.2)
        (Memᴰ.cases_cons (distinct_of same (ε ∷ flat_map parts (states e)) z h))

-- ---- Arcs

ascending_above : (first n : ℕ) {a : ℕ} → Memᴰ a (ascending first n) → first ≤ a
unfolding ascending
ascending_above first zero h = absurd (Memᴰ.not-nil h)
ascending_above first (suc n) h = ⊎_elim (λ e. omega arith) (λ t. let l = ascending_above (suc first) n t in omega arith) (Memᴰ.cases_cons h)

ascending_no_repeats : (first n : ℕ) → NoRepeats (ascending first n)
unfolding ascending
ascending_no_repeats first zero = tt
ascending_no_repeats first (suc n) = (λ h. let l = ascending_above (suc first) n h in omega arith, ascending_no_repeats (suc first) n)

pub alphabet_no_repeats : NoRepeats alphabet
unfolding alphabet
alphabet_no_repeats = ascending_no_repeats 1 last_letter

module _ (e : Expression) where
  derivative_bound : (a : ℕ) (x : Expression) → Memᴰ x (e ∷ support e) → length (derivative a x) ≤ 2 ^ length (letters e)
  derivative_bound a x h =
      let l = no_longer same (derivative a x) (support e) (derivative_no_repeats a x) (stays (support_stays e) x h a) in
      let b = support_bound e in
      omega arith

  -- By each of the letters of e at most as many members as there may be states, and by any other letter none.
  leaving_bound : (s : List Expression) (i : ℕ) (x : Expression) → Memᴰ x (e ∷ support e)
      → length (leaving s i x) ≤ length (letters e) * 2 ^ length (letters e)
  unfolding leaving
  leaving_bound s i x h =
      length_flat_map_among (λ a. map (λ m. arc i a (place same m s)) (derivative a x)) (2 ^ length (letters e)) ℕ_discrete alphabet (letters e)
      alphabet_no_repeats (λ a. rw length-map (derivative_bound a x h))
      (λ a z t. let r = Memᴰ.of_map (λ m. arc i a (place same m s)) (derivative a x) t in
      support_letters e x h a (derivative_letter a x r.0 r.1))

  leaving_all_bound : (s : List Expression) (i : ℕ) (xs : List Expression) → Within xs (e ∷ support e)
      → length (leaving_all s i xs) ≤ length xs * (length (letters e) * 2 ^ length (letters e))
  unfolding leaving_all
  leaving_all_bound s i [] w = zero-le
  leaving_all_bound s i (x ∷ xs) w =
      let b = leaving_bound s i x (w x (Memᴰ.head refl)) in
      let t = leaving_all_bound s (suc i) xs (λ m h. w m (Memᴰ.tail h)) in
      rw (length-append, suc-mul) (omega arith)

square : (m : ℕ) → 2 ^ m * 2 ^ m ≡ 4 ^ m
square zero = refl
square (suc m) = let ih = square m in rw (two-pow-succ, pow-succ' 4 m, mul-add, add-mul) (omega arith)

pub arcs_bound : (e : Expression) → length (arcs e) ≤ length (letters e) * 4 ^ length (letters e)
unfolding arcs
arcs_bound e =
    let m = length (letters e) in
    le_trans (leaving_all_bound e (states e) 0 (states e) (states_support e))
    (le_trans (mul-le-mul (states_bound e) (le_refl (m * 2 ^ m))) (le_of_eq (mul_left_comm (2 ^ m) m (2 ^ m) ∙ ap (λ n. m * n) (square m))))
