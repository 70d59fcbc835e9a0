-- Laws of the tests and counts over the numbers below n: what each means, in parts, and one number more.
use Prim.Native.Nat.{ℕ, zero, suc, ◌+◌, ◌≤◌, ◌<◌}
use native.Mathlib.Nat.{le_refl, le_of_eq, le_antisymm, le_of_suc-le-suc, not-suc-le-zero, add-suc, add-zero, eq-or-lt_of_le, le_step}
use native.Mathlib.Decide.{le_ind, ℕ_discrete}
use native.Mathlib.Numerals.{add-one}
use native.Mathlib.Omega.{arith}
use mathlib.Core.Path.{◌≡◌, refl, sym, ap, ap₂, ◌∙◌, subst}
use mathlib.Core.Logic.Iff
use mathlib.Core.Logic.{◌⊎◌, inl, inr, ⊎_elim, ◌↔◌}
use mathlib.Core.Bool.{Bool, true, false, cond, ◌||◌, ◌&&◌, or_assoc, or-false, false≢true}
use mathlib.Core.List.Memᴰ
use mathlib.Core.List.{[], ◌∷◌}
use Rattle.theory.specs.Below.{some_below, all_below, count_below, HowMany}
use Rattle.theory.proofs.Distinct.{no_longer}

-- ---- Only the numbers below n count

pub some_cong : (n : ℕ) (p q : ℕ → Bool) → ((k : ℕ) → k < n → p k ≡ q k) → some_below n p ≡ some_below n q
unfolding some_below
some_cong zero p q e = refl
some_cong (suc n) p q e = ap₂ ◌||◌ (some_cong n p q (λ k l. e k (omega arith))) (e n (le_refl (suc n)))

pub count_cong : (n : ℕ) (p q : ℕ → Bool) → ((k : ℕ) → k < n → p k ≡ q k) → count_below n p ≡ count_below n q
unfolding count_below
count_cong zero p q e = refl
count_cong (suc n) p q e =
    ap₂ (λ (b : Bool) (c : ℕ). cond b (suc c) c) (e n (le_refl (suc n))) (count_cong n p q (λ k l. e k (omega arith)))

pub all_cong : (n : ℕ) (p q : ℕ → Bool) → ((k : ℕ) → k < n → p k ≡ q k) → all_below n p ≡ all_below n q
unfolding all_below
all_cong zero p q e = refl
all_cong (suc n) p q e = ap₂ ◌&&◌ (all_cong n p q (λ k l. e k (omega arith))) (e n (le_refl (suc n)))

-- ---- From one number, and to one

pub some_at : (n : ℕ) (p : ℕ → Bool) (k : ℕ) → k < n → p k ≡ true → some_below n p ≡ true
unfolding some_below
some_at zero p k l e = absurd (not-suc-le-zero l)
some_at (suc n) p k l e = go (some_below n p) (eq-or-lt_of_le (le_of_suc-le-suc l)) (λ m. some_at n p k m e)
  where
    go : (b : Bool) → (k ≡ n) ⊎ (k < n) → (k < n → b ≡ true) → (b || p n) ≡ true
    go true d h = refl
    go false (inl q) h = subst (λ (m : ℕ). p m ≡ true) q e
    go false (inr m) h = absurd (false≢true (h m))

pub some_of : (n : ℕ) (p : ℕ → Bool) → some_below n p ≡ true → (k : ℕ) × (k < n) × (p k ≡ true)
unfolding some_below
some_of zero p e = absurd (false≢true e)
some_of (suc n) p e = go (some_below n p) (λ h. some_of n p h) e
  where
    go : (b : Bool) → (b ≡ true → (k : ℕ) × (k < n) × (p k ≡ true)) → (b || p n) ≡ true → (k : ℕ) × (k < suc n) × (p k ≡ true)
    go true ih h = let r = ih refl in (r.0, le_step r.1, r.2)
    go false ih h = (n, le_refl (suc n), h)

pub all_at : (n : ℕ) (p : ℕ → Bool) (k : ℕ) → all_below n p ≡ true → k < n → p k ≡ true
unfolding all_below
all_at zero p k e l = absurd (not-suc-le-zero l)
all_at (suc n) p k e l = go (all_below n p) (λ h m. all_at n p k h m) e (eq-or-lt_of_le (le_of_suc-le-suc l))
  where
    go : (b : Bool) → (b ≡ true → k < n → p k ≡ true) → (b && p n) ≡ true → (k ≡ n) ⊎ (k < n) → p k ≡ true
    go true ih h (inl i) = subst (λ (m : ℕ). p m ≡ true) (sym i) h
    go true ih h (inr m) = ih refl m
    go false ih h d = absurd (false≢true h)

pub all_each : (n : ℕ) (p : ℕ → Bool) → ((k : ℕ) → k < n → p k ≡ true) → all_below n p ≡ true
unfolding all_below
all_each zero p h = refl
all_each (suc n) p h = ap₂ ◌&&◌ (all_each n p (λ k l. h k (omega arith))) (h n (le_refl (suc n)))

pub some_none : (n : ℕ) (p : ℕ → Bool) → ((k : ℕ) → k < n → p k ≡ false) → some_below n p ≡ false
unfolding some_below
some_none zero p h = refl
some_none (suc n) p h = ap₂ ◌||◌ (some_none n p (λ k l. h k (omega arith))) (h n (le_refl (suc n)))

pub count_none : (n : ℕ) (p : ℕ → Bool) → ((k : ℕ) → k < n → p k ≡ false) → count_below n p ≡ 0
unfolding count_below
count_none zero p h = refl
count_none (suc n) p h =
    ap₂ (λ (b : Bool) (c : ℕ). cond b (suc c) c) (h n (le_refl (suc n))) (count_none n p (λ k l. h k (omega arith)))

-- What can be decided of each number holds of all below n, or fails at one.
pub each_below : (n : ℕ) (P : ℕ → Type 0) → ((k : ℕ) → Dec (P k)) → ((k : ℕ) → k < n → P k) ⊎ ((k : ℕ) × (k < n) × ¬ P k)
each_below zero P d = inl (λ k l. absurd (not-suc-le-zero l))
each_below (suc n) P d = go (d n) (each_below n P d)
  where
    go : Dec (P n) → ((k : ℕ) → k < n → P k) ⊎ ((k : ℕ) × (k < n) × ¬ P k) → ((k : ℕ) → k < suc n → P k) ⊎ ((k : ℕ) × (k < suc n) × ¬ P k)
    go (no f) r = inr (n, le_refl (suc n), f)
    go (yes p) (inl h) = inl (λ k l. ⊎_elim (λ e. subst P (sym e) p) (h k) (eq-or-lt_of_le (le_of_suc-le-suc l)))
    go (yes p) (inr (k, l, f)) = inr (k, le_step l, f)

-- ---- In two parts

pub some_add : (m n : ℕ) (p : ℕ → Bool) → some_below (m + n) p ≡ (some_below m p || some_below n (λ j. p (m + j)))
unfolding some_below
some_add m zero p = rw add-zero (sym (or-false (some_below m p)))
some_add m (suc n) p =
    rw add-suc (ap (λ (b : Bool). b || p (m + n)) (some_add m n p) ∙ or_assoc (some_below m p) (some_below n (λ j. p (m + j))) (p (m + n)))

pub count_add : (m n : ℕ) (p : ℕ → Bool) → count_below (m + n) p ≡ count_below m p + count_below n (λ j. p (m + j))
unfolding count_below
count_add m zero p = rw add-zero (sym (add-zero (count_below m p)))
count_add m (suc n) p = rw add-suc (go (p (m + n)) (count_add m n p))
  where
    go : (b : Bool) → count_below (m + n) p ≡ count_below m p + count_below n (λ j. p (m + j))
        → cond b (suc (count_below (m + n) p)) (count_below (m + n) p)
        ≡ count_below m p + cond b (suc (count_below n (λ j. p (m + j)))) (count_below n (λ j. p (m + j)))
    go true e = omega arith
    go false e = e

-- Where p holds of nothing from n on, a longer count says the same.
pub count_longer : (n m : ℕ) (p : ℕ → Bool) → n ≤ m → ((k : ℕ) → n ≤ k → p k ≡ false) → count_below m p ≡ count_below n p
unfolding count_below
count_longer n m p l h =
    le_ind (λ (k : ℕ). count_below k p ≡ count_below n p) refl (λ k nk e. ap₂ (λ (b : Bool) (c : ℕ). cond b (suc c) c) (h k nk) e) m l

-- ---- The first number apart

pub some_front : (n : ℕ) (p : ℕ → Bool) → some_below (suc n) p ≡ (p 0 || some_below n (λ j. p (suc j)))
unfolding some_below
some_front zero p = sym (or-false (p 0))
some_front (suc n) p = ap (λ (b : Bool). b || p (suc n)) (some_front n p) ∙ or_assoc (p 0) (some_below n (λ j. p (suc j))) (p (suc n))

pub count_front : (n : ℕ) (p : ℕ → Bool) → count_below (suc n) p ≡ cond (p 0) (suc (count_below n (λ j. p (suc j)))) (count_below n (λ j. p (suc j)))
unfolding count_below
count_front zero p = refl
count_front (suc n) p = go (p (suc n)) (p 0) (count_below n (λ j. p (suc j))) (count_front n p)
  where
    go : (b d : Bool) (rest : ℕ) → count_below (suc n) p ≡ cond d (suc rest) rest
        → cond b (suc (count_below (suc n) p)) (count_below (suc n) p) ≡ cond d (suc (cond b (suc rest) rest)) (cond b (suc rest) rest)
    go true true rest e = ap suc e
    go true false rest e = ap suc e
    go false true rest e = e
    go false false rest e = e

-- ---- One more, as a loop counts

pub some_more : (n : ℕ) (p : ℕ → Bool) → some_below (n + 1) p ≡ (some_below n p || p n)
unfolding some_below
some_more n p = rw add-one

all_more : (n : ℕ) (p : ℕ → Bool) → all_below (n + 1) p ≡ (all_below n p && p n)
unfolding all_below
all_more n p = rw add-one

pub some_next : (i : ℕ) (p : ℕ → Bool) {b : Bool} → b ≡ some_below i p → (b || p i) ≡ some_below (i + 1) p
some_next i p e = ap (λ (d : Bool). d || p i) e ∙ sym (some_more i p)

pub all_next : (i : ℕ) (p : ℕ → Bool) {b : Bool} → b ≡ all_below i p → (b && p i) ≡ all_below (i + 1) p
all_next i p e = ap (λ (d : Bool). d && p i) e ∙ sym (all_more i p)

-- What holds where a loop stops holds of n.
pub at_end : {A : Type 0} (f : ℕ → A) {a : A} {i n : ℕ} → a ≡ f i → i ≤ n → n ≤ i → a ≡ f n
at_end f e l m = e ∙ ap f (le_antisymm l m)

-- ---- How many

pub how_many_once : {P : ℕ → Type 0} {m n : ℕ} → HowMany P m → HowMany P n → m ≡ n
how_many_once h k =
    h.many
    ∙ le_antisymm (no_longer ℕ_discrete h.those k.those h.once (λ t m. (k.exactly t).1 ((h.exactly t).0 m)))
    (no_longer ℕ_discrete k.those h.those k.once (λ t m. (h.exactly t).1 ((k.exactly t).0 m)))
    ∙ sym k.many

pub how_many_cong : {P Q : ℕ → Type 0} {n : ℕ} → ((t : ℕ) → P t ↔ Q t) → HowMany P n → HowMany Q n
how_many_cong e h = record { those = h.those; once = h.once; exactly = λ t. Iff.trans (h.exactly t) (e t); many = h.many }

-- A count is how many numbers below n pass the test.
pub count_how_many : (n : ℕ) (p : ℕ → Bool) → HowMany (λ t. (t < n) × (p t ≡ true)) (count_below n p)
unfolding count_below
count_how_many zero p = record {
  those = [];
  once = tt;
  exactly = λ t. (λ m. absurd (Memᴰ.not-nil m), λ (l, _). absurd (not-suc-le-zero l));
  many = refl;
}
count_how_many (suc n) p = go (p n) refl (count_how_many n p)
  where
    go : (b : Bool) → p n ≡ b → HowMany (λ t. (t < n) × (p t ≡ true)) (count_below n p)
        → HowMany (λ t. (t < suc n) × (p t ≡ true)) (cond b (suc (count_below n p)) (count_below n p))
    go true q h = record {
      those = n ∷ h.those;
      once = (λ m. let (l, _) = (h.exactly n).0 m in omega arith, h.once);
      exactly = λ t. (
        λ m. ⊎_elim (λ e. (le_of_eq (ap suc e), ap p e ∙ q)) (λ k. let (l, r) = (h.exactly t).0 k in (le_step l, r)) (Memᴰ.cases_cons m),
        λ (l, r). ⊎_elim (λ e. Memᴰ.head e) (λ k. Memᴰ.tail ((h.exactly t).1 (k, r))) (eq-or-lt_of_le (le_of_suc-le-suc l)),
      );
      many = ap suc h.many;
    }
    go false q h = record {
      those = h.those;
      once = h.once;
      exactly = λ t. (
        λ m. let (l, r) = (h.exactly t).0 m in (le_step l, r),
        λ (l, r).
            ⊎_elim (λ e. absurd (false≢true (sym q ∙ ap p (sym e) ∙ r))) (λ k. (h.exactly t).1 (k, r)) (eq-or-lt_of_le (le_of_suc-le-suc l)),
      );
      many = h.many;
    }
