-- The first fault of a scan, as a loop finds it: over an entry without fault, at a fault, at the end; and what a scan without fault says.
use Prim.Native.Nat.{ℕ, zero, suc, ◌+◌, ◌-◌, ◌≤◌, ◌<◌}
use native.Mathlib.Nat.{eq-or-lt_of_le}
use native.Mathlib.Numerals.{add-one}
use native.Mathlib.Omega.{arith}
use mathlib.Core.Path.{◌≡◌, refl, ap, sym, ◌∙◌, subst}
use mathlib.Core.Logic.{⊎_elim}
use mathlib.Core.Bool.{Bool, true, false, cond}
use lib.Dec.{eqb}
use borrow.Author.Tests.{eq-eqb, ne_eqb, eqb-true, eqb-false}
use Rattle.theory.specs.Refusal.{Refusal, refusal, success}
use Rattle.theory.specs.Table.{first_fault}

module _ (fault : ℕ → ℕ) where
  -- One entry of a scan.
  first_step : (i k : ℕ) → first_fault fault i (suc k) ≡ cond (eqb (fault i) 0) (first_fault fault (suc i) k) (refusal (fault i) i)
  unfolding first_fault
  first_step i k = go (eqb (fault i) 0)
    where
      go : (b : Bool)
          → elim b as (λ _. Refusal) [ true ↦ first_fault fault (suc i) k | false ↦ refusal (fault i) i ]
          ≡ cond b (first_fault fault (suc i) k) (refusal (fault i) i)
      go true = refl
      go false = refl

  -- ---- From i up to n

  step : (i n : ℕ) → i < n → n - i ≡ suc (n - (i + 1))
  step i n l = omega arith

  pub over : (i n : ℕ) → i < n → fault i ≡ 0 → first_fault fault i (n - i) ≡ first_fault fault (i + 1) (n - (i + 1))
  over i n l e = rw (step i n l, first_step, eq-eqb (fault i) 0 e, add-one i)

  pub at_fault : (i n : ℕ) → i < n → (fault i ≡ 0 → ⊥) → first_fault fault i (n - i) ≡ refusal (fault i) i
  at_fault i n l e = rw (step i n l, first_step, ne_eqb (fault i) 0 e)

  pub at_end : (i n : ℕ) → n ≤ i → first_fault fault i (n - i) ≡ success
  unfolding first_fault
  at_end i n l = let e : n - i ≡ zero = omega arith in rw e

  -- ---- Without fault

  clear : (b : Bool) (x : Refusal) (i : ℕ) → eqb (fault i) 0 ≡ b → (cond b x (refusal (fault i) i)).number ≡ 0 → b ≡ true
  clear true x i q e = refl
  clear false x i q e = absurd (eqb-false (fault i) 0 q e)

  -- What the scan has passed, and what is left of it.
  passed : (i k : ℕ) → (first_fault fault i (suc k)).number ≡ 0 → (fault i ≡ 0) × (first_fault fault i (suc k) ≡ first_fault fault (suc i) k)
  passed i k e =
      let q = clear (eqb (fault i) 0) (first_fault fault (suc i) k) i refl (ap (λ (r : Refusal). r.number) (sym (first_step i k)) ∙ e) in
      (eqb-true (fault i) 0 q, rw (first_step, q))

  pub none_at : (i k : ℕ) → (first_fault fault i k).number ≡ 0 → (j : ℕ) → i ≤ j → j < i + k → fault j ≡ 0
  none_at i zero e j a b = absurd (omega arith)
  none_at i (suc k) e j a b =
      let p = passed i k e in
      ⊎_elim (λ q. subst (λ (m : ℕ). fault m ≡ 0) q p.0)
      (λ l. none_at (suc i) k (ap (λ (r : Refusal). r.number) (sym p.1) ∙ e) j l (omega arith))
      (eq-or-lt_of_le a)
