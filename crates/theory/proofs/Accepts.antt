-- The automaton of an expression accepts exactly its language (004's Proposition 5), over its list of arcs and over any columns that hold it.
-- Leans on `Accepts.Arcs`, on `Language`: the test for the empty word and the derivative are right, and on `Verdicts`.
use Prim.Native.Nat.{ℕ, ◌≤◌, ◌<◌}
use native.Mathlib.Nat.{lt_of_not-le}
use native.Mathlib.Omega.{arith}
use mathlib.Core.Path.{◌≡◌, refl, sym, ap, ◌∙◌, subst}
use mathlib.Core.Logic.Iff
use mathlib.Core.Logic.{◌↔◌}
use mathlib.Core.Bool.{Bool, true, false, cond}
use mathlib.Core.List.{List, [], ◌∷◌, Memᴰ}
use lib.ListN.{length, get_or, length-map, get_or-map, get_or-eq_default}
use Rattle.theory.specs.Expression.{Expression, ∅, same}
use Rattle.theory.specs.Distinct.{place}
use Rattle.theory.specs.Language.{Word, In}
use Rattle.theory.specs.Derivative.{empty_word, derivative}
use Rattle.theory.specs.Automaton.{states, accepting, Arc, arc, arcs, Leads}
use Rattle.theory.specs.Arcs.{arc_at, used}
use Rattle.theory.specs.Record.{Handed, automaton, accepts, verdict, live}
use Rattle.theory.specs.Verdict.{Accepted}
use Rattle.theory.proofs.Distinct.{place_below, at_place}
use Rattle.theory.proofs.Language.{empty_word_right, derivative_right}
use Rattle.theory.proofs.States.{states_zero, states_some}
use Rattle.theory.proofs.WellFormed.{Lettered}
use Rattle.theory.proofs.Arcs.{used_are}
use Rattle.theory.proofs.Verdicts.{accepts_iff, verdict_cong, live_cong}
use Arcs.{arcs_of, in_alphabet, member_state, to_arcs, arcs_end}
pub mod Arcs

-- ---- Accepting states

accepting_at : (e : Expression) (j : ℕ) → get_or (accepting e) j 0 ≡ cond (empty_word (get_or (states e) j ∅)) 1 0
unfolding accepting empty_word
accepting_at e j = get_or-map (λ x. cond (empty_word x) 1 0) (states e) j ∅

-- 01: "A state is accepting when its language holds the empty word".
pub accepting_iff : (e : Expression) (j : ℕ) → (get_or (accepting e) j 0 ≡ 1) ↔ In (get_or (states e) j ∅) []
accepting_iff e j =
    Iff.trans (λ h. one (empty_word (get_or (states e) j ∅)) (sym (accepting_at e j) ∙ h), λ h. accepting_at e j ∙ ap (λ (b : Bool). cond b 1 0) h)
    (empty_word_right (get_or (states e) j ∅))
  where
    one : (b : Bool) → ◌≡◌ {A = ℕ} (cond b 1 0) 1 → b ≡ true
    one true h = refl
    one false h = absurd (omega arith)

pub accepting_length : (e : Expression) → length (accepting e) ≡ length (states e)
unfolding accepting
accepting_length e = length-map (states e) (λ x. cond (empty_word x) 1 0)

-- The column's values are 0 and 1.
pub accepting_value : (e : Expression) (t : ℕ) → get_or (accepting e) t 0 ≤ 1
accepting_value e t = rw (accepting_at e t) (small (empty_word (get_or (states e) t ∅)))
  where
    small : (b : Bool) → cond b 1 0 ≤ 1
    small true = omega arith
    small false = omega arith

-- What the column does not hold is not 1.
pub accepting_below : (e : Expression) (t : ℕ) → get_or (accepting e) t 0 ≡ 1 → t < length (states e)
accepting_below e t h =
    lt_of_not-le (λ l. let z = get_or-eq_default (accepting e) 0 {n = t} (omega (arith, accepting_length e)) in omega arith)

-- ---- Proposition 5

-- The word w leads from state i to an accepting state.
abbrev pub Read : Expression → ℕ → Word → Type 0
Read e i w = (j : ℕ) × Leads (arcs e) i w j × (get_or (accepting e) j 0 ≡ 1)

module _ (e : Expression) (good : Lettered e) where
  -- One letter: if the words read from each state are its language, those that start with a are read to the members of the derivative.
  read_step : (w : Word) → ((k : ℕ) → k < length (states e) → Read e k w ↔ In (get_or (states e) k ∅) w)
      → (i : ℕ) → i < length (states e) → (a : ℕ)
      → Read e i (a ∷ w) ↔ ((m : Expression) × Memᴰ m (derivative a (get_or (states e) i ∅)) × In m w)
  read_step w ih i l a = (forth, back)
    where
      forth : Read e i (a ∷ w) → (m : Expression) × Memᴰ m (derivative a (get_or (states e) i ∅)) × In m w
      forth (j, (k, z, r), acc) =
          let v = (arcs_of e z).1 in
          let s = member_state e i l a v.letter v.member v.derived in
          let there : get_or (states e) k ∅ ≡ v.member = ap (λ (n : ℕ). get_or (states e) n ∅) v.to ∙ at_place same v.member (states e) ∅ s in (
            v.member,
            v.derived,
            subst (λ x. In x w) there ((ih k (arcs_end e z).1).0 (j, r, acc)),
          )

      back : (m : Expression) × Memᴰ m (derivative a (get_or (states e) i ∅)) × In m w → Read e i (a ∷ w)
      back (m, d, n) =
          let h = in_alphabet e good i l a m d in
          let s = member_state e i l a h m d in
          let k = place same m (states e) in
          let (j, r, acc) = (ih k (place_below same m (states e) s)).1 (subst (λ x. In x w) (sym (at_place same m (states e) ∅ s)) n) in
          (j, (k, to_arcs e i l a h m d, r), acc)

  -- The words read from a state are the language of its expression.
  pub read_language : (w : Word) (i : ℕ) → i < length (states e) → Read e i w ↔ In (get_or (states e) i ∅) w
  read_language [] i l =
      Iff.trans (λ (j, p, acc). subst (λ (k : ℕ). get_or (accepting e) k 0 ≡ 1) p acc, λ acc. (i, refl, acc)) (accepting_iff e i)
  read_language (a ∷ w) i l = Iff.trans (read_step w (read_language w) i l a) (derivative_right a (get_or (states e) i ∅) w)

pub leads_language : (e : Expression) → Lettered e → (w : Word) → ((j : ℕ) × Leads (arcs e) 0 w j × (get_or (accepting e) j 0 ≡ 1)) ↔ In e w
leads_language e good w = subst (λ x. Read e 0 w ↔ In x w) (states_zero e ∅) (read_language e good w 0 (states_some e))

-- ---- Over columns

-- h is the automaton of e, whatever its columns hold beyond the counts.
pub record IsAutomaton (e : Expression) (h : Handed) : Type 0 where
  pub as_many : h.states ≡ length (states e)
  pub flags : (t : ℕ) → t < length (states e) → get_or h.accepting t 0 ≡ get_or (accepting e) t 0
  pub arcs : used h.arcs ≡ arcs e

module _ {e : Expression} {h : Handed} (is : IsAutomaton e h) where
  pub leads_iff : (w : Word) (t : ℕ) → Leads (used h.arcs) 0 w t ↔ Leads (arcs e) 0 w t
  leads_iff w t =
      (subst (λ (zs : List Arc). Leads zs 0 w t) is.arcs, subst (λ (zs : List Arc). Leads zs 0 w t) (sym is.arcs))

  accepted_iff : (w : Word) → Accepted h w ↔ Read e 0 w
  accepted_iff w = (
    λ (t, m, l, q). (t, (leads_iff w t).0 m, sym (is.flags t (subst (λ (n : ℕ). t < n) is.as_many l)) ∙ q),
    λ (t, m, q).
        let l = accepting_below e t q in
        (t, (leads_iff w t).1 m, subst (λ (n : ℕ). t < n) (sym is.as_many) l, is.flags t l ∙ q),
  )

  pub accepted_language : Lettered e → (w : Word) → Accepted h w ↔ In e w
  accepted_language good w = Iff.trans (accepted_iff w) (leads_language e good w)

module _ {e : Expression} {h k : Handed} (is : IsAutomaton e h) (also : IsAutomaton e k) (w : Word) where
  -- Verdict and live are the expression's own.
  pub verdict_own : verdict h w ≡ verdict k w
  verdict_own =
      verdict_cong h k
      (λ u. (λ (t, m). (t, (leads_iff also u t).1 ((leads_iff is u t).0 m)), λ (t, m). (t, (leads_iff is u t).1 ((leads_iff also u t).0 m))))
      (λ u. Iff.trans (accepted_iff is u) (Iff.symm (accepted_iff also u))) w

  pub live_own : live h w ≡ live k w
  live_own = live_cong h k (is.as_many ∙ sym also.as_many) (λ u t. Iff.trans (leads_iff is u t) (Iff.symm (leads_iff also u t))) w

-- The automaton with nothing beyond the counts.
pub automaton_is : (e : Expression) → IsAutomaton e (automaton e)
unfolding automaton
automaton_is e = record { as_many = refl; flags = λ t _. refl; arcs = used_are _ (arcs e) at }
  where
    at : (i : ℕ) → arc_at (automaton e).arcs.columns i ≡ get_or (arcs e) i (arc 0 0 0)
    at i =
        λ k. arc (get_or-map (λ (z : Arc). z.from) (arcs e) i (arc 0 0 0) k) (get_or-map (λ (z : Arc). z.letter) (arcs e) i (arc 0 0 0) k)
        (get_or-map (λ (z : Arc). z.to) (arcs e) i (arc 0 0 0) k)

pub accepts_language : (e : Expression) → Lettered e → (w : Word) → (accepts (automaton e) w ≡ true) ↔ In e w
accepts_language e good w = Iff.trans (accepts_iff (automaton e) w) (accepted_language (automaton_is e) good w)
