-- The fewest digits that hold a number are the definition's, and a small number has few.
use Prim.Native.Nat.{ℕ, zero, suc, ◌+◌, ◌/◌, ◌%◌, ◌^◌, ◌≤◌, ◌<◌, zero-le}
use native.Mathlib.Nat.{suc-sub-suc, sub-zero, pow-suc, one-le-pow, mod-lt, mod-eq_of_lt}
use native.Mathlib.Omega.{arith}
use mathlib.Core.Path.{◌≡◌, refl, sym, ap, ap₂, ◌∙◌, subst}
use mathlib.Core.Bool.{Bool, true, false, cond}
use mathlib.Core.List.{List, [], ◌∷◌, ◌++◌}
use lib.ListN.{length, length-append}
use lib.Dec.{ltb}
use borrow.Author.Tests.{ltb-true, ltb-false}
use Rattle.io.specs.Digits.{hex_digit_ascii, last_digits, IsDigitCount}
use Rattle.theory.specs.Lines.{digits_in, decimal}

-- A digit below 10 is written from `0` on.
glyph_of : (d : ℕ) → d < 10 → 48 + d ≡ hex_digit_ascii d
glyph_of d l = go (ltb d 10) refl
  where
    go : (b : Bool) → ltb d 10 ≡ b → 48 + d ≡ cond b (48 + d) (87 + d)
    go true e = refl
    go false e = absurd (let n = ltb-false d 10 e in omega arith)

-- A number of two digits and more is no less than the power that they stand for.
no_less : (n k : ℕ) → IsDigitCount 10 1 n (suc (suc k)) → 10 ^ suc k ≤ n
no_less n k (l, below, above) = subst (λ (m : ℕ). 10 ^ m ≤ n) (suc-sub-suc (suc k) 0 ∙ sub-zero (suc k)) (above (omega arith))

ten_or_more : (n k : ℕ) → IsDigitCount 10 1 n (suc (suc k)) → 10 ≤ n
ten_or_more n k f = let a = no_less n k f in let p = pow-suc 10 k in let q = one-le-pow k 10 (omega arith) in omega arith

tenth_fewest : (n k : ℕ) → IsDigitCount 10 1 n (suc (suc k)) → IsDigitCount 10 1 (n / 10) (suc k)
tenth_fewest n k f = (
  omega arith,
  let b = f.1 in let p = pow-suc 10 (suc k) in omega arith,
  λ h. subst (λ (m : ℕ). 10 ^ m ≤ n / 10) (sym (suc-sub-suc k 0 ∙ sub-zero k)) (let a = no_less n k f in let p = pow-suc 10 k in omega arith),
)

in_steps : (steps n k : ℕ) → n < steps → IsDigitCount 10 1 n k → digits_in steps n ≡ last_digits 10 k n
unfolding digits_in
in_steps zero n k l f = absurd (omega arith)
in_steps (suc s) n zero l (h, below, above) = absurd (omega arith)
in_steps (suc s) n (suc zero) l (h, below, above) = go (ltb n 10) refl
  where
    go : (b : Bool) → ltb n 10 ≡ b → cond b ((48 + n) ∷ []) (digits_in s (n / 10) ++ ((48 + n % 10) ∷ [])) ≡ hex_digit_ascii (n % 10) ∷ []
    go true e = let l = ltb-true n 10 e in ap (λ (d : ℕ). d ∷ []) (glyph_of n l ∙ ap hex_digit_ascii (sym (mod-eq_of_lt l)))
    go false e = absurd (let m = ltb-false n 10 e in omega arith)
in_steps (suc s) n (suc (suc k)) l f = go (ltb n 10) refl (λ h. in_steps s (n / 10) (suc k) h (tenth_fewest n k f))
  where
    go : (b : Bool) → ltb n 10 ≡ b → (n / 10 < s → digits_in s (n / 10) ≡ last_digits 10 (suc k) (n / 10))
        → cond b ((48 + n) ∷ []) (digits_in s (n / 10) ++ ((48 + n % 10) ∷ [])) ≡ last_digits 10 (suc k) (n / 10) ++ (hex_digit_ascii (n % 10) ∷ [])
    go true e h = absurd (let m = ltb-true n 10 e in let t = ten_or_more n k f in omega arith)
    go false e h =
        let m = ltb-false n 10 e in
        ap₂ (λ (front : List ℕ) (d : ℕ). front ++ (d ∷ [])) (h (omega arith)) (glyph_of (n % 10) (mod-lt n (omega arith)))

pub decimal_digits : (n k : ℕ) → IsDigitCount 10 1 n k → last_digits 10 k n ≡ decimal n
unfolding decimal digits_in
decimal_digits n k f = sym (in_steps (suc n) n k (omega arith) f)

digits_short : (steps n k : ℕ) → n < 10 ^ suc k → length (digits_in steps n) ≤ suc k
unfolding digits_in
digits_short zero n k l = zero-le
digits_short (suc s) n zero l = go (ltb n 10) refl
  where
    go : (b : Bool) → ltb n 10 ≡ b → length (cond b ((48 + n) ∷ []) (digits_in s (n / 10) ++ ((48 + n % 10) ∷ []))) ≤ 1
    go true e = omega arith
    go false e = absurd (let m = ltb-false n 10 e in omega arith)
digits_short (suc s) n (suc k) l = go (ltb n 10) (digits_short s (n / 10) k (let p = pow-suc 10 (suc k) in omega arith))
  where
    go : (b : Bool) → length (digits_in s (n / 10)) ≤ suc k
        → length (cond b ((48 + n) ∷ []) (digits_in s (n / 10) ++ ((48 + n % 10) ∷ []))) ≤ suc (suc k)
    go true h = omega arith
    go false h = let m = length-append (digits_in s (n / 10)) ((48 + n % 10) ∷ []) in omega arith

-- A number below a power of ten has no more digits than the power has zeros.
pub decimal_short : (n k : ℕ) → n < 10 ^ suc k → length (decimal n) ≤ suc k
unfolding decimal
decimal_short n k l = digits_short (suc n) n k l
