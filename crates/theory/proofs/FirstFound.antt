-- What the first fault of a scan over n entries says: none of them has a fault, or it is the fault of the first that has one. Leans on
-- `FirstFault`.
use Prim.Native.Nat.{ℕ, zero, suc, ◌+◌, ◌-◌, ◌<◌}
use native.Mathlib.Nat.{le_antisymm, eq-or-lt_of_le, sub-zero}
use native.Mathlib.Decide.{ℕ_discrete}
use native.Mathlib.Omega.{arith, by_contra}
use mathlib.Core.Path.{◌≡◌, refl, sym, ap, ◌∙◌, subst}
use mathlib.Core.Logic.{⊎_elim}
use Rattle.theory.specs.Refusal.{Refusal, refusal, success}
use Rattle.theory.specs.Table.{first_fault}
use Rattle.theory.proofs.FirstFault.{over, at_fault, at_end}

pub data Scanned (fault : ℕ → ℕ) (n : ℕ) : Refusal → Type 0 where
  clean : ((i : ℕ) → i < n → fault i ≡ 0) → Scanned fault n success
  faulty : (p : ℕ) → p < n → ((i : ℕ) → i < p → fault i ≡ 0) → (fault p ≡ 0 → ⊥) → Scanned fault n (refusal (fault p) p)

module _ (fault : ℕ → ℕ) (n : ℕ) where
  from : (d i : ℕ) → i + d ≡ n → ((j : ℕ) → j < i → fault j ≡ 0) → Scanned fault n (first_fault fault i (n - i))
  from zero i e h = subst (Scanned fault n) (sym (at_end fault i n (omega arith))) (clean (λ j l. h j (omega arith)))
  from (suc d) i e h = go (from d (i + 1) (omega arith)) (ℕ_discrete (fault i) 0)
    where
      here : i < n
      here = omega arith

      so_far : fault i ≡ 0 → (j : ℕ) → j < i + 1 → fault j ≡ 0
      so_far z j l = ⊎_elim (λ q. ap fault q ∙ z) (h j) (eq-or-lt_of_le (omega arith))

      go : (((j : ℕ) → j < i + 1 → fault j ≡ 0) → Scanned fault n (first_fault fault (i + 1) (n - (i + 1)))) → Dec (fault i ≡ 0)
          → Scanned fault n (first_fault fault i (n - i))
      go later (yes z) = subst (Scanned fault n) (sym (over fault i n here z)) (later (so_far z))
      go later (no f) = subst (Scanned fault n) (sym (at_fault fault i n here f)) (faulty i here h f)

  pub scanned : Scanned fault n (first_fault fault 0 n)
  scanned = rw sub-zero at (from n 0 (omega arith) (λ j l. absurd (omega arith)))

  pub scanned_once : {r s : Refusal} → Scanned fault n r → Scanned fault n s → r ≡ s
  scanned_once (clean h) (clean h') = refl
  scanned_once (clean h) (faulty p l b f) = absurd (f (h p l))
  scanned_once (faulty p l b f) (clean h) = absurd (f (h p l))
  scanned_once (faulty p l b f) (faulty q l' b' f') =
      ap (λ (k : ℕ). refusal (fault k) k) (le_antisymm (by_contra p q (λ m. f' (b q m))) (by_contra q p (λ m. f (b' p m))))
