-- The list of states: it is complete, it repeats nothing, the given expression is its first, its members are 004's ∂(e), and no other list is
-- all this. Leans on `Support` for the bound on the rounds, and on `Distinct`: what is met later comes last.
use Prim.Native.Nat.{ℕ, zero, suc, ◌+◌, ◌^◌, ◌≤◌, ◌<◌, zero-le, suc-le-suc}
use native.Mathlib.Nat.{le_trans, le_antisymm}
use native.Mathlib.Omega.{arith}
use mathlib.Core.Path.{◌≡◌, refl, ap, ◌∙◌, subst}
use mathlib.Core.Logic.{⊎_elim}
use mathlib.Core.Bool.{Bool, true, false}
use mathlib.Core.List.Memᴰ
use mathlib.Core.List.{List, [], ◌∷◌, ◌++◌, flat_map, append-nil, Memᴰ}
use lib.ListN.{length, length-append, get_or}
use lib.Dec.{eqb}
use borrow.Author.Tests.{eqb-true, eqb-false}
use Rattle.theory.specs.Expression.{Expression, same, letters}
use Rattle.theory.specs.Distinct.{distinct, beyond, without, NoRepeats, Within}
use Rattle.theory.specs.Derivative.{derivative}
use Rattle.theory.specs.Automaton.{alphabet, successors, met, rounds, states, Derived, itself}
use Rattle.theory.proofs.Distinct.{distinct_of, to_distinct, distinct_no_repeats, distinct_append, no_longer}
use Rattle.theory.proofs.Support.{support, stays, support_stays, support_bound}
use Rattle.theory.proofs.Members.{to_flat_map, flat_map_of, flat_map_append}

-- t is the beginning of s.
pub record Begins (t s : List Expression) : Type 0 where
  pub rest : List Expression
  pub goes_on : s ≡ t ++ rest

-- ---- One round

pub met_no_repeats : (e : Expression) (s : List Expression) → NoRepeats (met e s)
unfolding met
met_no_repeats e s = distinct_no_repeats same (e ∷ flat_map successors s)

pub met_of : (e : Expression) (s : List Expression) → Within (met e s) (e ∷ flat_map successors s)
unfolding met
met_of e s = distinct_of same (e ∷ flat_map successors s)

pub to_met : (e : Expression) (s : List Expression) → Within (e ∷ flat_map successors s) (met e s)
unfolding met
to_met e s = to_distinct same (e ∷ flat_map successors s)

pub met_first : (e : Expression) (s : List Expression) → Begins (e ∷ []) (met e s)
unfolding met
met_first e s = record { rest = without same e (distinct same (flat_map successors s)); goes_on = refl }

-- What begins the list begins what is met from it: a later round only adds at the end.
pub met_begins : (e : Expression) {t s : List Expression} → Begins t s → Begins (met e t) (met e s)
unfolding met
met_begins e {t} {s} b = record {
  rest = beyond same (e ∷ flat_map successors t) (distinct same (flat_map successors b.rest));
  goes_on = ap (met e) b.goes_on ∙ ap (λ l. distinct same (e ∷ l)) (flat_map_append successors t b.rest)
      ∙ distinct_append same (e ∷ flat_map successors t) (flat_map successors b.rest);
}

-- ---- The members of a round are the partial derivatives

pub met_derived : (e : Expression) (s : List Expression) → ((m : Expression) → Memᴰ m s → Derived e m)
    → (m : Expression) → Memᴰ m (met e s) → Derived e m
met_derived e s d m h =
    ⊎_elim itself (λ t. let r = flat_map_of successors s t in Derived.onward (d r.0 r.1) r.2) (Memᴰ.cases_cons (met_of e s m h))

known : {e : Expression} {s : List Expression} → met e s ≡ s → {m : Expression} → Memᴰ m (e ∷ flat_map successors s) → Memᴰ m s
known {e} {s} c {m} h = subst (λ t. Memᴰ m t) c (to_met e s m h)

-- Where a round brings nothing new, all partial derivatives are there.
pub derived_met : {e : Expression} {s : List Expression} → met e s ≡ s → {m : Expression} → Derived e m → Memᴰ m s
derived_met c (itself h) = known c (Memᴰ.head h)
derived_met c (Derived.onward d h) = known c (Memᴰ.tail (to_flat_map successors (derived_met c d) h))

pub successors_of : (x : Expression) {m : Expression} → Memᴰ m (successors x) → (a : ℕ) × Memᴰ m (derivative a x)
unfolding successors
successors_of x h = let r = flat_map_of (λ a. derivative a x) alphabet h in (r.0, r.2)

pub derived_support : {e m : Expression} → Derived e m → Memᴰ m (e ∷ support e)
derived_support (itself h) = Memᴰ.head h
derived_support {e} {m} (Derived.onward {x = x} d h) =
    let r = successors_of x h in Memᴰ.tail (stays (support_stays e) x (derived_support d) r.0 m r.1)

-- A list of partial derivatives without repeats is no longer than 004's bound.
pub derived_bound : (e : Expression) (s : List Expression) → NoRepeats s → ((m : Expression) → Memᴰ m s → Derived e m) → length s ≤ 2 ^ length (letters e)
derived_bound e s r d = le_trans (no_longer same s (e ∷ support e) r (λ m h. derived_support (d m h))) (support_bound e)

-- ---- The rounds

-- What the rounds keep of a list of expressions that grows to the states of e.
record Growing (e : Expression) (s : List Expression) : Type 0 where
  begins : Begins s (met e s)
  no_repeats : NoRepeats s
  derived : (m : Expression) → Memᴰ m s → Derived e m

growing_first : (e : Expression) → Growing e (e ∷ [])
growing_first e = record
    { begins = met_first e (e ∷ []); no_repeats = (Memᴰ.not-nil, tt); derived = λ m h. itself (Memᴰ.eq_of_singleton h) }

growing_met : (e : Expression) (s : List Expression) → Growing e s → Growing e (met e s)
growing_met e s g = record { begins = met_begins e g.begins; no_repeats = met_no_repeats e s; derived = met_derived e s g.derived }

rounds_keep : (P : List Expression → Type 0) (e : Expression) → ((s : List Expression) → P s → P (met e s)) → (k : ℕ) (s : List Expression)
    → P s → P (rounds k e s)
unfolding rounds
rounds_keep P e h zero s p = p
rounds_keep P e h (suc k) s p = go (eqb (length (met e s)) (length s)) (rounds_keep P e h k (met e s) (h s p))
  where
    go : (t : Bool) → P (rounds k e (met e s)) → P (elim t [ true ↦ s | false ↦ rounds k e (met e s) ])
    go true q = p
    go false q = q

begins_same : {t s : List Expression} → Begins t s → length s ≡ length t → s ≡ t
begins_same {t} {s} b h = go b.rest b.goes_on
  where
    go : (r : List Expression) → s ≡ t ++ r → s ≡ t
    go [] e = e ∙ append-nil t
    go (x ∷ r) e = absurd (let l = simp length-append at (ap length e) in omega arith)

begins_longer : {t s : List Expression} → Begins t s → length t ≤ length s
begins_longer {t} {s} b = let l = simp length-append at (ap length b.goes_on) in omega arith

rounds_complete : (k : ℕ) (e : Expression) (s : List Expression) → Growing e s → 2 ^ length (letters e) < length s + k → met e (rounds k e s) ≡ rounds k e s
unfolding rounds
rounds_complete zero e s g h = let b = derived_bound e s g.no_repeats g.derived in absurd (omega arith)
rounds_complete (suc k) e s g h = go (eqb (length (met e s)) (length s)) refl (rounds_complete k e (met e s) (growing_met e s g))
  where
    next : List Expression
    next = rounds k e (met e s)

    go : (t : Bool) → eqb (length (met e s)) (length s) ≡ t → (2 ^ length (letters e) < length (met e s) + k → met e next ≡ next)
        → met e (elim t [ true ↦ s | false ↦ next ]) ≡ elim t [ true ↦ s | false ↦ next ]
    go true p ih = begins_same g.begins (eqb-true _ _ p)
    go false p ih = ih (let l = begins_longer g.begins in let n = eqb-false (length (met e s)) (length s) p in omega arith)

states_growing : (e : Expression) → Growing e (states e)
unfolding states
states_growing e = rounds_keep (Growing e) e (growing_met e) (2 ^ length (letters e)) (e ∷ []) (growing_first e)

-- ---- The states

pub states_complete : (e : Expression) → met e (states e) ≡ states e
unfolding states
states_complete e = rounds_complete (2 ^ length (letters e)) e (e ∷ []) (growing_first e) (omega arith)

pub states_no_repeats : (e : Expression) → NoRepeats (states e)
states_no_repeats e = (states_growing e).no_repeats

pub states_first : (e : Expression) → Begins (e ∷ []) (states e)
states_first e = subst (Begins (e ∷ [])) (states_complete e) (met_first e (states e))

pub states_some : (e : Expression) → 0 < length (states e)
states_some e = rw (states_first e).goes_on (suc-le-suc zero-le)

pub states_zero : (e d : Expression) → get_or (states e) 0 d ≡ e
states_zero e d = ap (λ t. get_or t 0 d) (states_first e).goes_on

pub states_derived : (e m : Expression) → Memᴰ m (states e) → Derived e m
states_derived e = (states_growing e).derived

pub derived_states : {e m : Expression} → Derived e m → Memᴰ m (states e)
derived_states {e} = derived_met (states_complete e)

-- The equation alone does not pin the list: that of ε and a* solves it for ε.
pub states_only : (e : Expression) (s : List Expression) → met e s ≡ s → ((m : Expression) → Memᴰ m s → Derived e m) → s ≡ states e
unfolding states
states_only e s c d = begins_same begins (le_antisymm shorter (begins_longer begins))
  where
    begins : Begins (states e) s
    begins =
        rounds_keep (λ t. Begins t s) e (λ t b. subst (Begins (met e t)) c (met_begins e b)) (2 ^ length (letters e)) (e ∷ [])
        (subst (Begins (e ∷ [])) c (met_first e s))

    shorter : length s ≤ length (states e)
    shorter = no_longer same s (states e) (subst NoRepeats c (met_no_repeats e s)) (λ m h. derived_states (d m h))
