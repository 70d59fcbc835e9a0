-- A token was made of its own byte, and a letter, being none of the grammar's other bytes, makes its own token.
use Prim.Native.Nat.{ℕ, ◌≤◌, ◌<◌}
use native.Mathlib.Omega.{arith}
use mathlib.Core.Path.{◌≡◌, refl, sym, subst}
use mathlib.Core.Bool.{Bool, true, false, cond, ◌&&◌}
use mathlib.Core.Logic.{inl, inr}
use lib.Dec.{T, eqb, leb, ltb, leb→le, lit<}
use borrow.Author.Tests.{eqb-true, ne_eqb}
use mir.Facts.{and_yes, or_yes}
use Rattle.theory.specs.Expression.{union, concatenation, shuffle}
use Rattle.theory.specs.Grammar.{byte_open, byte_close, byte_*, byte_+, byte_dot, byte_&, byte_0, byte_1, is_letter, sign_byte}
use Rattle.theory.specs.Scan.{Token, opening, closing, starring, ∅_token, ε_token, other, signing, naming, token}

-- The byte that a token was made of.
abbrev pub MadeOf : Token → ℕ → Type 0
MadeOf opening b = b ≡ byte_open
MadeOf closing b = b ≡ byte_close
MadeOf starring b = b ≡ byte_*
MadeOf ∅_token b = b ≡ byte_0
MadeOf ε_token b = b ≡ byte_1
MadeOf other b = Unit {0}
MadeOf (signing s) b = b ≡ sign_byte s
MadeOf (naming a) b = (b ≡ a) × T (is_letter a)

by_cond {ℓ} : {A : Type ℓ} (P : A → Type 0) (t : Bool) {x y : A} → (t ≡ true → P x) → (t ≡ false → P y) → P (cond t x y)
by_cond P true f g = f refl
by_cond P false f g = g refl

pub token_made_of : (b : ℕ) → MadeOf (token b) b
unfolding token sign_byte
token_made_of b =
    at byte_open opening _ (λ e. e)
    (at byte_close closing _ (λ e. e)
    (at byte_* starring _ (λ e. e)
    (at byte_0 ∅_token _ (λ e. e)
    (at byte_1 ε_token _ (λ e. e)
    (at byte_+ (signing union) _ (λ e. e)
    (at byte_dot (signing concatenation) _ (λ e. e)
    (at byte_& (signing shuffle) _ (λ e. e)
    (by_cond P (is_letter b) (λ e. (refl, subst T (sym e) tt)) (λ e. tt)))))))))
  where
    P : Token → Type 0
    P k = MadeOf k b

    at : (c : ℕ) (k k' : Token) → (b ≡ c → P k) → P k' → P (cond (eqb b c) k k')
    at c k k' f p = by_cond P (eqb b c) (λ e. f (eqb-true b c e)) (λ e. p)

-- ---- Letters

pub letter_bounds : (a : ℕ) → T (is_letter a) → (65 ≤ a) × (a ≤ 122)
unfolding is_letter
letter_bounds a h = elim (or_yes (leb 65 a && leb a 90) (leb 97 a && leb a 122) h) [
  | inl u ↦ let b = and_yes (leb 65 a) (leb a 90) u in omega (arith, leb→le 65 a b.0, leb→le a 90 b.1)
  | inr u ↦ let b = and_yes (leb 97 a) (leb a 122) u in omega (arith, leb→le 97 a b.0, leb→le a 122 b.1)
]

pub letter_not : (a : ℕ) → T (is_letter a) → (c : ℕ) → T (ltb c 65) → eqb a c ≡ false
letter_not a h c l =
    let low = (letter_bounds a h).0 in
    let below : c < 65 = lit< l in
    ne_eqb a c (λ e. omega arith)

pub token_letter : (a : ℕ) → T (is_letter a) → token a ≡ naming a
unfolding token
token_letter a h =
    let no = letter_not a h in
    rw (no byte_open tt, no byte_close tt, no byte_* tt, no byte_0 tt, no byte_1 tt, no byte_+ tt, no byte_dot tt, no byte_& tt, T_true (is_letter a) h)
  where
    T_true : (b : Bool) → T b → b ≡ true
    T_true true t = refl
    T_true false t = absurd t
