-- Tests and counts over the numbers below n.
use Rattle.std.specs.Prelude.{ℕ, zero, suc, ◌≡◌, ◌↔◌, Bool, true, false, cond, ◌&&◌, ◌||◌, length}
use mathlib.Core.List.{List, Memᴰ}
use Rattle.theory.specs.Distinct.{NoRepeats}

unfoldable pub some_below : ℕ → (ℕ → Bool) → Bool
some_below zero p = false
some_below (suc n) p = some_below n p || p n

unfoldable pub all_below : ℕ → (ℕ → Bool) → Bool
all_below zero p = true
all_below (suc n) p = all_below n p && p n

unfoldable pub count_below : ℕ → (ℕ → Bool) → ℕ
count_below zero p = 0
count_below (suc n) p = cond (p n) (suc (count_below n p)) (count_below n p)

-- P holds of n numbers: a list without repeats has those of which it holds, and no other.
pub record HowMany (P : ℕ → Type 0) (n : ℕ) : Type 0 where
  pub those : List ℕ
  pub once : NoRepeats those
  pub exactly : (t : ℕ) → Memᴰ t those ↔ P t
  pub many : n ≡ length those
