-- The letters of an expression: a derivative that has a member is by one of them, and the members of the support have no
-- others. Leans on `Derivative` and `Support.Inherited`.
use Prim.Native.Nat.{ℕ}
use mathlib.Core.Path.{◌≡◌, refl}
use mathlib.Core.Bool.{Bool, true, false, cond}
use mathlib.Core.List.Memᴰ
use mathlib.Core.List.{List, [], ◌∷◌, ◌++◌, map, Memᴰ}
use lib.Dec.{eqb}
use borrow.Author.Tests.{eqb-true}
use Rattle.theory.specs.Expression.{Expression, Sign, ∅, ε, letter, binary, star, union, concatenation, shuffle, letters}
use Rattle.theory.specs.Derivative.{empty_word, joined, derivative}
use Rattle.theory.specs.Distinct.{Within}
use Rattle.theory.proofs.Pair.{pair_letters}
use Rattle.theory.proofs.Derivative.{gathered, derivative_of, joined_cases}
use Rattle.theory.proofs.Members.{either_half, within_append, within_both}
use Rattle.theory.proofs.Support.{followed_by, support}
use Rattle.theory.proofs.Support.Inherited.{Inherited, inherited}

-- ---- A derivative that has a member is by a letter that stands in the expression

by_map : (a : ℕ) (f : Expression → Expression) (xs : List Expression) {ys : List ℕ} {m : Expression} → ((i : Expression) → Memᴰ i xs → Memᴰ a ys)
    → Memᴰ m (map f xs) → Memᴰ a ys
by_map a f xs k h = let r = Memᴰ.of_map f xs h in k r.0 r.1

pub derivative_letter : (a : ℕ) (e m : Expression) → Memᴰ m (derivative a e) → Memᴰ a (letters e)
unfolding letters gathered
derivative_letter a ∅ m h = absurd (Memᴰ.not-nil (derivative_of a ∅ m h))
derivative_letter a ε m h = absurd (Memᴰ.not-nil (derivative_of a ε m h))
derivative_letter a (letter b) m h = go (eqb a b) refl (derivative_of a (letter b) m h)
  where
    go : (t : Bool) → eqb a b ≡ t → Memᴰ m (cond t (ε ∷ []) []) → Memᴰ a (b ∷ [])
    go true e k = Memᴰ.head (eqb-true a b e)
    go false e k = absurd (Memᴰ.not-nil k)
derivative_letter a (binary union x y) m h =
    either_half (derivative a x) (letters x) (letters y) (derivative_letter a x m) (derivative_letter a y m) (derivative_of a (binary union x y) m h)
derivative_letter a (binary concatenation x y) m h =
    either_half (map (followed_by y) (derivative a x)) (letters x) (letters y)
    (by_map a (followed_by y) (derivative a x) (derivative_letter a x)) (go (empty_word x) (derivative_letter a y m))
    (derivative_of a (binary concatenation x y) m h)
  where
    go : (t : Bool) → (Memᴰ m (derivative a y) → Memᴰ a (letters y)) → Memᴰ m (cond t (derivative a y) []) → Memᴰ a (letters y)
    go true f k = f k
    go false f k = absurd (Memᴰ.not-nil k)
derivative_letter a (binary shuffle x y) m h =
    either_half (map (λ i. joined shuffle i y) (derivative a x)) (letters x) (letters y)
    (by_map a (λ i. joined shuffle i y) (derivative a x) (derivative_letter a x)) (by_map a (λ i. joined shuffle x i) (derivative a y) (derivative_letter a y))
    (derivative_of a (binary shuffle x y) m h)
derivative_letter a (star x) m h =
    by_map a (followed_by (star x)) (derivative a x) (derivative_letter a x) (derivative_of a (star x) m h)

-- ---- The members of the support

letters_joined : (s : Sign) (m n : Expression) → Within (letters (joined s m n)) (letters m ++ letters n)
unfolding letters
letters_joined s =
    joined_cases s (λ m n j. Within (letters j) (letters m ++ letters n)) (λ u m z h. Memᴰ.append_left [] h) (λ u n z h. h) (pair_letters s)

letters_inherited : Inherited (λ e m. Within (letters m) (letters e))
unfolding letters
letters_inherited = record {
  itself = λ e z h. h;
  leaf = λ a z h. absurd (Memᴰ.not-nil h);
  left = λ s x y m k z h. Memᴰ.append_left (letters y) (k z h);
  right = λ s x y m k z h. Memᴰ.append_right (letters x) (k z h);
  both = λ s x y m n k l j z h. within_append (letters m) (letters x) k l z (letters_joined s m n z h);
  again = λ x m k j z h. within_both (letters m) k (λ z h. h) z (letters_joined concatenation m (star x) z h);
}

pub support_letters : (e m : Expression) → Memᴰ m (e ∷ support e) → Within (letters m) (letters e)
support_letters = inherited (λ e m. Within (letters m) (letters e)) letters_inherited
