-- How often an entry is named: by a list of children, by a row, by the first rows of a table.
use Prim.Native.Nat.{ℕ, zero, suc, ◌+◌, ◌*◌, ◌≤◌, zero-le, suc-le-suc}
use native.Mathlib.Nat.{zero-add, le_step, le_trans}
use native.Mathlib.Numerals.{add-one}
use native.Mathlib.Omega.{arith}
use mathlib.Core.Path.{◌≡◌, refl, sym}
use mathlib.Core.Bool.{Bool, true, false, cond}
use mathlib.Core.List.{List, [], ◌∷◌, ◌++◌}
use lib.ListN.{length}
use lib.Dec.{eqb}
use borrow.Author.Tests.{eq-eqb, ne_eqb, eqb-true}
use Rattle.theory.specs.Refusal.{not_named_once}
use Rattle.theory.specs.Table.{Table, Row, row, size, Meaning, ∅_kind, ε_kind, letter_kind, sign_kind, star_kind, unknown_kind, meaning, children, row_children, times, named, naming_fault}

-- ---- A list of children

-- A count's step, taken before a sum or after it.
pub cond_suc_add : (h : Bool) (n k : ℕ) → cond h (suc (n + k)) (n + k) ≡ cond h (suc n) n + k
cond_suc_add true n k = omega arith
cond_suc_add false n k = refl

pub times_append : (i : ℕ) (cs ds : List ℕ) → times i (cs ++ ds) ≡ times i cs + times i ds
unfolding times
times_append i [] ds = sym (zero-add (times i ds))
times_append i (c ∷ cs) ds = rw (times_append i cs ds, cond_suc_add)

pub times_length : (i : ℕ) (cs : List ℕ) → times i cs ≤ length cs
unfolding times
times_length i [] = zero-le
times_length i (c ∷ cs) = go (eqb c i) (times_length i cs)
  where
    go : (b : Bool) → times i cs ≤ length cs → cond b (suc (times i cs)) (times i cs) ≤ suc (length cs)
    go true h = suc-le-suc h
    go false h = le_step h

-- ---- A row, and the first rows of a table

two_children : (m : Meaning) (l r : ℕ) → length (children m l r) ≤ 2
unfolding children
two_children ∅_kind l r = omega arith
two_children ε_kind l r = omega arith
two_children letter_kind l r = omega arith
two_children (sign_kind s) l r = omega arith
two_children star_kind l r = omega arith
two_children unknown_kind l r = omega arith

pub times_row : (i : ℕ) (w : Row) → times i (row_children w) ≤ 2
unfolding row_children
times_row i w = le_trans (times_length i (row_children w)) (two_children (meaning w.kind) w.left w.right)

-- One row more.
pub named_more : (t : Table) (i n : ℕ) → times i (named t (n + 1)) ≡ times i (named t n) + times i (row_children (row t n))
unfolding named
named_more t i n = rw (add-one, times_append)

pub named_bound : (t : Table) (i n : ℕ) → times i (named t n) ≤ n * 2
unfolding named times
named_bound t i zero = zero-le
named_bound t i (suc n) = omega (arith, times_append i (named t n) (row_children (row t n)), times_row i (row t n), named_bound t i n)

-- ---- Refusal 8 of one entry

pub fault_none : (t : Table) (i : ℕ) → times i (named t (size t)) ≡ 1 → naming_fault t i ≡ 0
unfolding naming_fault
fault_none t i e = rw (eq-eqb (times i (named t (size t))) 1 e)

pub fault_found : (t : Table) (i : ℕ) → (times i (named t (size t)) ≡ 1 → ⊥) → naming_fault t i ≡ not_named_once
unfolding naming_fault
fault_found t i n = rw (ne_eqb (times i (named t (size t))) 1 n)

pub once_of : (t : Table) (i : ℕ) → naming_fault t i ≡ 0 → times i (named t (size t)) ≡ 1
unfolding naming_fault
once_of t i e = go (eqb (times i (named t (size t))) 1) refl e
  where
    go : (b : Bool) → eqb (times i (named t (size t))) 1 ≡ b → cond b 0 not_named_once ≡ 0 → times i (named t (size t)) ≡ 1
    go true q z = eqb-true (times i (named t (size t))) 1 q
    go false q z = absurd (omega arith)
