-- Sums over the numbers below n and over the members of a list; a list that names each number below n so and so often.
use Prim.Native.Nat.{ℕ, zero, suc, pred, ◌+◌, ◌*◌, ◌<◌}
use native.Mathlib.Nat.{le_refl, zero-add, add-zero, zero-mul, one-mul, suc-mul, eq-or-lt_of_le, le_of_suc-le-suc, not-suc-le-zero}
use native.Mathlib.Omega.{arith}
use mathlib.Core.Path.{◌≡◌, refl, sym, ap, ap₂, ◌∙◌}
use mathlib.Core.Logic.{⊎_elim}
use mathlib.Core.Bool.{Bool, true, false, cond}
use mathlib.Core.List.{List, [], ◌∷◌, ◌++◌, Memᴰ}
use lib.Dec.{eqb}
use borrow.Author.Tests.{eq-eqb, ne_eqb}
use Rattle.theory.specs.Below.{count_below}
use Rattle.theory.specs.Table.{times}

unfoldable pub sum_below : ℕ → (ℕ → ℕ) → ℕ
sum_below zero g = 0
sum_below (suc n) g = sum_below n g + g n

unfoldable pub sum_over : (ℕ → ℕ) → List ℕ → ℕ
sum_over g [] = 0
sum_over g (c ∷ cs) = g c + sum_over g cs

-- ---- Below n

pub sum_cong : (n : ℕ) {g h : ℕ → ℕ} → ((k : ℕ) → k < n → g k ≡ h k) → sum_below n g ≡ sum_below n h
unfolding sum_below
sum_cong zero e = refl
sum_cong (suc n) e = ap₂ ◌+◌ (sum_cong n (λ k l. e k (omega arith))) (e n (le_refl (suc n)))

pub sum_add : (n : ℕ) (g h : ℕ → ℕ) → sum_below n (λ k. g k + h k) ≡ sum_below n g + sum_below n h
unfolding sum_below
sum_add zero g h = omega arith
sum_add (suc n) g h = omega (arith, sum_add n g h)

pub sum_last : (n : ℕ) (g : ℕ → ℕ) → 0 < n → sum_below n g ≡ sum_below (pred n) g + g (pred n)
unfolding sum_below
sum_last zero g l = absurd (not-suc-le-zero l)
sum_last (suc n) g l = refl

pub sum_ones : (n : ℕ) → sum_below n (λ _. 1) ≡ n
unfolding sum_below
sum_ones zero = refl
sum_ones (suc n) = omega (arith, sum_ones n)

pub sum_count : (n : ℕ) (p : ℕ → Bool) → sum_below n (λ k. cond (p k) 1 0) ≡ count_below n p
unfolding sum_below count_below
sum_count zero p = refl
sum_count (suc n) p = go (p n) (sum_count n p)
  where
    go : (b : Bool) → sum_below n (λ k. cond (p k) 1 0) ≡ count_below n p
        → sum_below n (λ k. cond (p k) 1 0) + cond b 1 0 ≡ cond b (suc (count_below n p)) (count_below n p)
    go true e = omega arith
    go false e = omega arith

sum_zeros : (n : ℕ) (g : ℕ → ℕ) → ((k : ℕ) → k < n → g k ≡ 0) → sum_below n g ≡ 0
unfolding sum_below
sum_zeros zero g e = refl
sum_zeros (suc n) g e = omega (arith, sum_zeros n g (λ k l. e k (omega arith)), e n (le_refl (suc n)))

-- Of one number alone.
sum_only : (n c : ℕ) (g : ℕ → ℕ) → c < n → sum_below n (λ k. cond (eqb c k) (g k) 0) ≡ g c
unfolding sum_below
sum_only zero c g l = absurd (not-suc-le-zero l)
sum_only (suc n) c g l = ⊎_elim here (λ m. there m (sum_only n c g m)) (eq-or-lt_of_le (le_of_suc-le-suc l))
  where
    here : c ≡ n → sum_below (suc n) (λ k. cond (eqb c k) (g k) 0) ≡ g c
    here e =
        ap₂ ◌+◌
        (sum_zeros n (λ k. cond (eqb c k) (g k) 0) (λ k m. ap (λ (b : Bool). cond b (g k) 0) (ne_eqb c k (λ q. omega arith))))
        (ap (λ (b : Bool). cond b (g n) 0) (eq-eqb c n e))
        ∙ zero-add (g n) ∙ ap g (sym e)

    there : c < n → sum_below n (λ k. cond (eqb c k) (g k) 0) ≡ g c → sum_below (suc n) (λ k. cond (eqb c k) (g k) 0) ≡ g c
    there m e = ap₂ ◌+◌ e (ap (λ (b : Bool). cond b (g n) 0) (ne_eqb c n (λ q. omega arith))) ∙ add-zero (g c)

-- ---- Over a list

pub over_append : (g : ℕ → ℕ) (cs ds : List ℕ) → sum_over g (cs ++ ds) ≡ sum_over g cs + sum_over g ds
unfolding sum_over
over_append g [] ds = sym (zero-add (sum_over g ds))
over_append g (c ∷ cs) ds = omega (arith, over_append g cs ds)

pub over_cong : {g h : ℕ → ℕ} (cs : List ℕ) → ((c : ℕ) → Memᴰ c cs → g c ≡ h c) → sum_over g cs ≡ sum_over h cs
unfolding sum_over
over_cong [] e = refl
over_cong (c ∷ cs) e = ap₂ ◌+◌ (e c (Memᴰ.head refl)) (over_cong cs (λ d m. e d (Memᴰ.tail m)))

-- Each number counts as often as the list names it.
over_times : (n : ℕ) (g : ℕ → ℕ) (cs : List ℕ) → ((c : ℕ) → Memᴰ c cs → c < n) → sum_over g cs ≡ sum_below n (λ k. times k cs * g k)
unfolding sum_over times
over_times n g [] within = sym (sum_zeros n (λ k. times k [] * g k) (λ k l. zero-mul (g k)))
over_times n g (c ∷ cs) within =
    ap₂ ◌+◌ (sym (sum_only n c g (within c (Memᴰ.head refl)))) (over_times n g cs (λ d m. within d (Memᴰ.tail m)))
    ∙ sym (sum_add n (λ k. cond (eqb c k) (g k) 0) (λ k. times k cs * g k))
    ∙ sum_cong n (λ k l. step (eqb c k) k)
  where
    step : (b : Bool) (k : ℕ) → cond b (g k) 0 + times k cs * g k ≡ cond b (suc (times k cs)) (times k cs) * g k
    step true k = omega (arith, suc-mul (times k cs) (g k))
    step false k = zero-add (times k cs * g k)

-- Where each number below n is named once, the list is as good as the numbers.
pub over_once : (n : ℕ) (g : ℕ → ℕ) (cs : List ℕ) → ((c : ℕ) → Memᴰ c cs → c < n) → ((k : ℕ) → k < n → times k cs ≡ 1) → sum_over g cs ≡ sum_below n g
over_once n g cs within once = over_times n g cs within ∙ sum_cong n (λ k l. ap (λ (m : ℕ). m * g k) (once k l) ∙ one-mul (g k))
