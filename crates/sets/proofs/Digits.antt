-- The digits of a word and the bits of a column of words: what a store changes, what is set where a word is not 0, and how many.
use Prim.Native.Nat.{ℕ, zero, suc, ◌+◌, ◌*◌, ◌/◌, ◌%◌, ◌^◌, ◌<◌, max}
use native.Mathlib.Nat.{mod-lt, zero-div, div_self, div-one, zero-add, pow-suc}
use native.Mathlib.Decide.{ℕ_discrete}
use native.Mathlib.Numerals.{add-one, one-add}
use native.Mathlib.Omega.{arith}
use mathlib.Core.Path.{◌≡◌, refl, sym, ap, ap₂, ◌∙◌, subst}
use mathlib.Core.Bool.{Bool, true, false, cond, not, ◌||◌, or-false}
use mathlib.Core.List.{List}
use lib.ListN.{length, get_or, set}
use lib.Seq.{get_or-set_same, get_or-set_other}
use lib.Dec.{eqb, lit<}
use lib.Pow.{pow_pos, shr-shr, shr_lt, shl-shr}
use lib.Bits.{bit_or, or_step, or_shr}
use lib.Count.{ones, ones_in, ones_step}
use borrow.Author.Tests.{eq-eqb, ne_eqb, eqb-true, eqb-false}
use Rattle.theory.specs.Column.{zeros}
use Rattle.theory.specs.Below.{some_below, count_below}
use Rattle.theory.proofs.Below.{some_front, count_front, some_cong, count_cong, some_add, count_add}
use Rattle.theory.proofs.Column.{get_or_zeros}
use Rattle.sets.specs.Bits.{digit, bit}

-- ---- Digits

two_digits : (a b : ℕ) → a < 2 → b < 2 → eqb (max a b) 1 ≡ (eqb a 1 || eqb b 1)
two_digits zero zero p q = refl
two_digits zero (suc zero) p q = refl
two_digits (suc zero) zero p q = refl
two_digits (suc zero) (suc zero) p q = refl
two_digits zero (suc (suc b)) p q = absurd (omega arith)
two_digits (suc zero) (suc (suc b)) p q = absurd (omega arith)
two_digits (suc (suc a)) b p q = absurd (omega arith)

or_low : (a b : ℕ) → bit_or a b % 2 ≡ max (a % 2) (b % 2)
or_low a b = ap (λ (n : ℕ). n % 2) (or_step a b) ∙ omega arith

pub digit_or : (a b j : ℕ) → digit (bit_or a b) j ≡ (digit a j || digit b j)
unfolding digit
digit_or a b j =
    ap (λ (n : ℕ). eqb (n % 2) 1) (or_shr a b j) ∙ ap (λ (n : ℕ). eqb n 1) (or_low (a / 2 ^ j) (b / 2 ^ j))
    ∙ two_digits (a / 2 ^ j % 2) (b / 2 ^ j % 2) (omega arith) (omega arith)

pub digit_zero : (j : ℕ) → digit 0 j ≡ false
unfolding digit
digit_zero j = ap (λ (n : ℕ). eqb (n % 2) 1) (zero-div (2 ^ j))

pub digit_self : (k : ℕ) → digit (2 ^ k) k ≡ true
unfolding digit
digit_self k = ap (λ (n : ℕ). eqb (n % 2) 1) (div_self (pow_pos k))

-- a word shifted by one has its digits one lower
digit_suc : (v j : ℕ) → digit v (suc j) ≡ digit (v / 2) j
unfolding digit
digit_suc v j = ap (λ (n : ℕ). eqb (n % 2) 1) (ap (λ (i : ℕ). v / 2 ^ i) (sym (one-add j)) ∙ sym (shr-shr v 1 j))

half_pow : (k : ℕ) → 2 ^ suc k / 2 ≡ 2 ^ k
half_pow k = ap (λ (n : ℕ). n / 2) (pow-suc 2 k) ∙ shl-shr (2 ^ k) 1

digit_even : (k : ℕ) → digit (2 ^ suc k) 0 ≡ false
unfolding digit
digit_even k =
    let even : 2 ^ suc k / 1 % 2 ≡ 0 = omega (arith, div-one (2 ^ suc k), pow-suc 2 k) in
    ap (λ (n : ℕ). eqb n 1) even

pub digit_other : (k j : ℕ) → (j ≡ k → ⊥) → digit (2 ^ k) j ≡ false
digit_other zero zero n = absurd (n refl)
digit_other zero (suc j) n = digit_suc 1 j ∙ digit_zero j
digit_other (suc k) zero n = digit_even k
digit_other (suc k) (suc j) n =
    digit_suc (2 ^ suc k) j ∙ ap (λ (v : ℕ). digit v j) (half_pow k) ∙ digit_other k j (λ e. n (ap suc e))

-- ---- A word as a whole

low_digit : (v : ℕ) → digit v 0 ≡ eqb (v % 2) 1
unfolding digit
low_digit v = ap (λ (n : ℕ). eqb (n % 2) 1) (div-one v)

zero_or : (v : ℕ) → not (eqb v 0) ≡ (eqb (v % 2) 1 || not (eqb (v / 2) 0))
zero_or v = go (eqb (v % 2) 1) refl (eqb (v / 2) 0) refl
  where
    go : (a : Bool) → eqb (v % 2) 1 ≡ a → (b : Bool) → eqb (v / 2) 0 ≡ b → not (eqb v 0) ≡ (a || not b)
    go true p b q = ap not (ne_eqb v 0 (λ e. eqb-false 0 1 refl (sym (ap (λ (n : ℕ). n % 2) e) ∙ eqb-true (v % 2) 1 p)))
    go false p true q =
        let n : v % 2 ≡ 1 → ⊥ = eqb-false (v % 2) 1 p in
        let h : v / 2 ≡ 0 = eqb-true (v / 2) 0 q in
        ap not (eq-eqb v 0 (omega arith))
    go false p false q = ap not (ne_eqb v 0 (λ e. eqb-false (v / 2) 0 q (ap (λ (n : ℕ). n / 2) e)))

half_below : (k v : ℕ) → v < 2 ^ suc k → v / 2 < 2 ^ k
half_below k v l = shr_lt k 1 (subst (λ (n : ℕ). v < 2 ^ n) (sym (add-one k)) l)

-- A word of k digits is not 0 exactly where a digit is set.
pub word_set : (k v : ℕ) → v < 2 ^ k → not (eqb v 0) ≡ some_below k (digit v)
unfolding some_below
word_set zero v l = ap not (eq-eqb v 0 (omega arith))
word_set (suc k) v l =
    zero_or v
    ∙ ap₂ ◌||◌ (sym (low_digit v))
    (word_set k (v / 2) (half_below k v l) ∙ some_cong k (digit (v / 2)) (λ j. digit v (suc j)) (λ j _. sym (digit_suc v j)))
    ∙ sym (some_front k (digit v))

-- The count of a word's ones is the count of its set digits.
pub word_count : (k v : ℕ) → v < 2 ^ k → ones v ≡ count_below k (digit v)
unfolding count_below ones ones_in
word_count zero v l = let none : v ≡ 0 = omega arith in ap ones none
word_count (suc k) v l =
    ones_step v
    ∙ go (v % 2) (mod-lt v (lit< tt)) (word_count k (v / 2) (half_below k v l))
    ∙ sym (ap₂ (λ (b : Bool) (n : ℕ). cond b (suc n) n) (low_digit v) (count_cong k (λ j. digit v (suc j)) (digit (v / 2)) (λ j _. digit_suc v j)))
    ∙ sym (count_front k (digit v))
  where
    go : (d : ℕ) → d < 2 → ones (v / 2) ≡ count_below k (digit (v / 2))
        → d + ones (v / 2) ≡ cond (eqb d 1) (suc (count_below k (digit (v / 2)))) (count_below k (digit (v / 2)))
    go zero h e = zero-add _ ∙ e
    go (suc zero) h e = one-add _ ∙ ap suc e
    go (suc (suc d)) h e = absurd (omega arith)

-- ---- A column of words

pub bit_here : (words : List ℕ) (i v t : ℕ) → i < length words → t / 64 ≡ i → bit (set words i v) t ≡ digit v (t % 64)
unfolding bit
bit_here words i v t l e =
    ap (λ (w : ℕ). digit w (t % 64)) (ap (λ (k : ℕ). get_or (set words i v) k 0) e ∙ get_or-set_same words i v 0 l)

pub bit_away : (words : List ℕ) (i v t : ℕ) → (t / 64 ≡ i → ⊥) → bit (set words i v) t ≡ bit words t
unfolding bit
bit_away words i v t n = ap (λ (w : ℕ). digit w (t % 64)) (get_or-set_other words i (t / 64) v 0 n)

-- Nothing is set in a column that is clear.
pub none_set : (n : ℕ) {words : List ℕ} → words ≡ zeros n → (t : ℕ) → bit words t ≡ false
unfolding bit
none_set n e t = ap (λ (w : ℕ). digit w (t % 64)) (ap (λ (c : List ℕ). get_or c (t / 64) 0) e ∙ get_or_zeros n (t / 64)) ∙ digit_zero (t % 64)

-- A number's digit set in its word: that number's bit is set, and every other is as it was.
pub bit_mark : (words : List ℕ) (number : ℕ) → number / 64 < length words → (t : ℕ)
    → bit (set words (number / 64) (bit_or (get_or words (number / 64) 0) (2 ^ (number % 64)))) t ≡ (bit words t || eqb t number)
unfolding bit
bit_mark words number l t = go (ℕ_discrete (t / 64) (number / 64)) (ℕ_discrete (t % 64) (number % 64))
  where
    marked : List ℕ
    marked = set words (number / 64) (bit_or (get_or words (number / 64) 0) (2 ^ (number % 64)))

    word : ℕ
    word = get_or words (number / 64) 0

    go : Dec (t / 64 ≡ number / 64) → Dec (t % 64 ≡ number % 64) → bit marked t ≡ (bit words t || eqb t number)
    go (no n) d =
        bit_away words (number / 64) _ t n ∙ sym (or-false (bit words t))
        ∙ ap (λ (b : Bool). bit words t || b) (sym (ne_eqb t number (λ e. n (ap (λ (k : ℕ). k / 64) e))))
    go (yes e) d =
        bit_here words (number / 64) _ t l e ∙ digit_or word (2 ^ (number % 64)) (t % 64)
        ∙ ap₂ ◌||◌ (ap (λ (k : ℕ). digit (get_or words k 0) (t % 64)) (sym e)) (low d)
      where
        low : Dec (t % 64 ≡ number % 64) → digit (2 ^ (number % 64)) (t % 64) ≡ eqb t number
        low (yes q) = ap (digit (2 ^ (number % 64))) q ∙ digit_self (number % 64) ∙ sym (eq-eqb t number (omega arith))
        low (no n) = digit_other (number % 64) (t % 64) n ∙ sym (ne_eqb t number (λ q. n (ap (λ (k : ℕ). k % 64) q)))

-- The 64 bits of word i.
bit_block : (words : List ℕ) (i j : ℕ) → j < 64 → bit words (i * 64 + j) ≡ digit (get_or words i 0) j
unfolding bit
bit_block words i j l =
    let q : (i * 64 + j) / 64 ≡ i = omega arith in
    let r : (i * 64 + j) % 64 ≡ j = omega arith in
    ap₂ (λ (k d : ℕ). digit (get_or words k 0) d) q r

next_block : (i : ℕ) → (i + 1) * 64 ≡ i * 64 + 64
next_block i = omega arith

pub some_block : (words : List ℕ) (i : ℕ) → get_or words i 0 < 2 ^ 64
    → some_below ((i + 1) * 64) (bit words) ≡ (some_below (i * 64) (bit words) || not (eqb (get_or words i 0) 0))
some_block words i l =
    ap (λ (n : ℕ). some_below n (bit words)) (next_block i) ∙ some_add (i * 64) 64 (bit words)
    ∙ ap (λ (b : Bool). some_below (i * 64) (bit words) || b)
    (some_cong 64 (λ j. bit words (i * 64 + j)) (digit (get_or words i 0)) (bit_block words i) ∙ sym (word_set 64 (get_or words i 0) l))

pub count_block : (words : List ℕ) (i : ℕ) → get_or words i 0 < 2 ^ 64
    → count_below ((i + 1) * 64) (bit words) ≡ count_below (i * 64) (bit words) + ones (get_or words i 0)
count_block words i l =
    ap (λ (n : ℕ). count_below n (bit words)) (next_block i) ∙ count_add (i * 64) 64 (bit words)
    ∙ ap (λ (n : ℕ). count_below (i * 64) (bit words) + n)
    (count_cong 64 (λ j. bit words (i * 64 + j)) (digit (get_or words i 0)) (bit_block words i) ∙ sym (word_count 64 (get_or words i 0) l))
