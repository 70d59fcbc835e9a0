-- 004's π as a list, and 004's Propositions 1 and 2: the derivatives of an expression, and those of the members of its π, are members of its π,
-- and π with the expression has at most 2 to the number of letters members. Leans on `Derivative` and `Members`.
pub mod Inherited
use Prim.Native.Nat.{ℕ, suc, ◌+◌, ◌*◌, ◌^◌, ◌≤◌}
use native.Mathlib.Nat.{le_trans, le_refl, mul-le-mul, suc-mul, mul-suc}
use native.Mathlib.Omega.{arith}
use mathlib.Core.Path.{◌≡◌, refl, sym, ap, subst}
use mathlib.Core.Logic.{⊎_elim}
use mathlib.Core.Bool.{Bool, true, false, cond}
use mathlib.Core.List.Memᴰ
use mathlib.Core.List.{List, [], ◌∷◌, ◌++◌, map, Memᴰ}
use lib.ListN.{length, length-append, length-map}
use lib.Dec.{eqb}
use lib.Pow.{pow-add}
use Rattle.theory.specs.Expression.{Expression, Sign, ∅, ε, letter, binary, star, union, concatenation, shuffle, letters}
use Rattle.theory.specs.Derivative.{empty_word, joined, derivative}
use Rattle.theory.specs.Distinct.{Within}
use Rattle.theory.proofs.Derivative.{gathered, derivative_of, joined_within}
use Rattle.theory.proofs.Members.{within_append, within_both, within_map, pairs, to_pairs, pairs_of, length_pairs}

-- m followed by y
abbrev pub followed_by : Expression → Expression → Expression
followed_by y m = joined concatenation m y

-- 004's π (x ⧢ y), from x with π x and y with π y: all but x ⧢ y itself.
unfoldable pub shuffled : Expression → List Expression → Expression → List Expression → List Expression
shuffled x p y q = pairs (joined shuffle) p q ++ (map (λ m. joined shuffle m y) p ++ map (λ n. joined shuffle x n) q)

unfoldable pub support : Expression → List Expression
support ∅ = []
support ε = []
support (letter a) = ε ∷ []
support (binary union x y) = support x ++ support y
support (binary concatenation x y) = map (followed_by y) (support x) ++ support y
support (binary shuffle x y) = shuffled x (support x) y (support y)
support (star x) = map (followed_by (star x)) (support x)

-- ---- The derivatives stay within

-- The derivatives of e, and those of the members of s, are members of s.
pub record Stays (e : Expression) (s : List Expression) : Type 0 where
  pub first : (a : ℕ) → Within (derivative a e) s
  pub onward : (m : Expression) → Memᴰ m s → (a : ℕ) → Within (derivative a m) s

pub stays : {e : Expression} {s : List Expression} → Stays e s → (m : Expression) → Memᴰ m (e ∷ s) → (a : ℕ) → Within (derivative a m) s
stays {e} {s} c m h a = ⊎_elim (λ p. subst (λ t. Within (derivative a t) s) (sym p) (c.first a)) (λ t. c.onward m t a) (Memᴰ.cases_cons h)

nothing_stays : (e : Expression) → ((a : ℕ) → Within (derivative a e) []) → Stays e []
nothing_stays e h = record { first = h; onward = λ m n. absurd (Memᴰ.not-nil n) }

letter_stays : (b : ℕ) → Stays (letter b) (ε ∷ [])
unfolding gathered
letter_stays b = record {
  first = λ a z m. go (eqb a b) z (derivative_of a (letter b) z m);
  onward = λ m h a z n. absurd
      (Memᴰ.not-nil (derivative_of a ε z (subst (λ t. Memᴰ z (derivative a t)) (Memᴰ.eq_of_singleton h) n)));
}
  where
    go : (t : Bool) → Within (cond t (ε ∷ []) []) (ε ∷ [])
    go true z m = m
    go false z m = absurd (Memᴰ.not-nil m)

-- The derivative of what is joined, by that of the expression that the sign stands in.
of_joined : (s : Sign) (a : ℕ) (m n : Expression) {z : Expression} {t : List Expression} → joined s m n ≡ z → Within (derivative a (binary s m n)) t
    → Within (derivative a z) t
of_joined s a m n {t = t} e h = subst (λ d. Within (derivative a d) t) e (λ y k. h y (joined_within s a m n y k))

concatenation_within : (a : ℕ) (m y : Expression) {p q : List Expression} → Within (derivative a m) p → Within (derivative a y) q
    → Within (derivative a (binary concatenation m y)) (map (followed_by y) p ++ q)
unfolding gathered
concatenation_within a m y {p} {q} h k z n =
    within_append (map (followed_by y) (derivative a m)) (map (followed_by y) p)
    (within_map (followed_by y) (derivative a m) h) (go (empty_word m)) z (derivative_of a (binary concatenation m y) z n)
  where
    go : (t : Bool) → Within (cond t (derivative a y) []) q
    go true = k
    go false = λ z n. absurd (Memᴰ.not-nil n)

module _ (x y : Expression) {p q : List Expression} where
  -- a member of π x, with y or a member of π y
  left_shuffled : {m n : Expression} → Memᴰ m p → Memᴰ n (y ∷ q) → Memᴰ (joined shuffle m n) (shuffled x p y q)
  unfolding shuffled
  left_shuffled {m} h k =
      ⊎_elim
      (λ e. Memᴰ.append_right (pairs (joined shuffle) p q)
      (Memᴰ.append_left _ (Memᴰ.cast (ap (joined shuffle m) e) (Memᴰ.map (λ m. joined shuffle m y) h))))
      (λ t. Memᴰ.append_left _ (to_pairs (joined shuffle) h t)) (Memᴰ.cases_cons k)

  -- x or a member of π x, with a member of π y
  right_shuffled : {m n : Expression} → Memᴰ m (x ∷ p) → Memᴰ n q → Memᴰ (joined shuffle m n) (shuffled x p y q)
  unfolding shuffled
  right_shuffled {n = n} h k =
      ⊎_elim
      (λ e. Memᴰ.append_right (pairs (joined shuffle) p q)
      (Memᴰ.append_right (map (λ m. joined shuffle m y) p) (Memᴰ.cast (ap (λ m. joined shuffle m n) e) (Memᴰ.map (λ n. joined shuffle x n) k))))
      (λ t. Memᴰ.append_left _ (to_pairs (joined shuffle) t k)) (Memᴰ.cases_cons h)

pub shuffled_of : (x y : Expression) (p q : List Expression) {z : Expression} → Memᴰ z (shuffled x p y q)
    → (m : Expression) × (n : Expression) × Memᴰ m (x ∷ p) × Memᴰ n (y ∷ q) × (joined shuffle m n ≡ z)
unfolding shuffled
shuffled_of x y p q {z} h =
    ⊎_elim both (λ t. ⊎_elim left right (Memᴰ.append_cases (map (λ m. joined shuffle m y) p) t))
    (Memᴰ.append_cases (pairs (joined shuffle) p q) h)
  where
    Found : Type 0
    Found = (m : Expression) × (n : Expression) × Memᴰ m (x ∷ p) × Memᴰ n (y ∷ q) × (joined shuffle m n ≡ z)

    both : Memᴰ z (pairs (joined shuffle) p q) → Found
    both t = let r = pairs_of (joined shuffle) p q t in (r.0, r.1, Memᴰ.tail r.2, Memᴰ.tail r.3, r.4)

    left : Memᴰ z (map (λ m. joined shuffle m y) p) → Found
    left t = let r = Memᴰ.of_map (λ m. joined shuffle m y) p t in (r.0, y, Memᴰ.tail r.1, Memᴰ.head refl, r.2)

    right : Memᴰ z (map (λ n. joined shuffle x n) q) → Found
    right t = let r = Memᴰ.of_map (λ n. joined shuffle x n) q t in (x, r.0, Memᴰ.head refl, Memᴰ.tail r.1, r.2)

module _ {x y : Expression} {p q : List Expression} (left : Stays x p) (right : Stays y q) where
  union_stays : Stays (binary union x y) (p ++ q)
  unfolding gathered
  union_stays = record {
    first = λ a z m. within_append (derivative a x) p (left.first a) (right.first a) z (derivative_of a (binary union x y) z m);
    onward = λ m h a. ⊎_elim
        (λ t z n. Memᴰ.append_left q (left.onward m t a z n)) (λ t z n. Memᴰ.append_right p (right.onward m t a z n)) (Memᴰ.append_cases p h);
  }

  concatenation_stays : Stays (binary concatenation x y) (map (followed_by y) p ++ q)
  concatenation_stays = record {
    first = λ a. concatenation_within a x y (left.first a) (right.first a);
    onward = λ m h a. ⊎_elim
        (λ t. let r = Memᴰ.of_map (followed_by y) p t in
        of_joined concatenation a r.0 y r.2 (concatenation_within a r.0 y (left.onward r.0 r.1 a) (right.first a)))
        (λ t z n. Memᴰ.append_right (map (followed_by y) p) (right.onward m t a z n)) (Memᴰ.append_cases (map (followed_by y) p) h);
  }

  shuffle_within : (a : ℕ) {m n : Expression} → Memᴰ m (x ∷ p) → Memᴰ n (y ∷ q) → Within (derivative a (binary shuffle m n)) (shuffled x p y q)
  unfolding gathered
  shuffle_within a {m} {n} h k z d =
      ⊎_elim
      (λ t. let r = Memᴰ.of_map (λ i. joined shuffle i n) (derivative a m) t in
      Memᴰ.cast (sym r.2) (left_shuffled x y (stays left m h a r.0 r.1) k))
      (λ t. let r = Memᴰ.of_map (λ i. joined shuffle m i) (derivative a n) t in
      Memᴰ.cast (sym r.2) (right_shuffled x y h (stays right n k a r.0 r.1)))
      (Memᴰ.append_cases (map (λ i. joined shuffle i n) (derivative a m)) (derivative_of a (binary shuffle m n) z d))

  shuffle_stays : Stays (binary shuffle x y) (shuffled x p y q)
  shuffle_stays = record {
    first = λ a. shuffle_within a (Memᴰ.head refl) (Memᴰ.head refl);
    onward = λ z h a. let r = shuffled_of x y p q h in of_joined shuffle a r.0 r.1 r.4 (shuffle_within a r.2 r.3);
  }

module _ {x : Expression} {p : List Expression} (inner : Stays x p) where
  star_first : (a : ℕ) → Within (derivative a (star x)) (map (followed_by (star x)) p)
  unfolding gathered
  star_first a z m = within_map (followed_by (star x)) (derivative a x) (inner.first a) z (derivative_of a (star x) z m)

  star_stays : Stays (star x) (map (followed_by (star x)) p)
  star_stays = record {
    first = star_first;
    onward = λ m h a. let r = Memᴰ.of_map (followed_by (star x)) p h in
        of_joined concatenation a r.0 (star x) r.2
        (λ z n. within_both (map (followed_by (star x)) p) (λ z m. m) (λ z m. m) z
        (concatenation_within a r.0 (star x) (inner.onward r.0 r.1 a) (star_first a) z n));
  }

-- 004, Proposition 1 and 2
pub support_stays : (e : Expression) → Stays e (support e)
unfolding support gathered
support_stays ∅ = nothing_stays ∅ (λ a. derivative_of a ∅)
support_stays ε = nothing_stays ε (λ a. derivative_of a ε)
support_stays (letter a) = letter_stays a
support_stays (binary union x y) = union_stays (support_stays x) (support_stays y)
support_stays (binary concatenation x y) = concatenation_stays (support_stays x) (support_stays y)
support_stays (binary shuffle x y) = shuffle_stays (support_stays x) (support_stays y)
support_stays (star x) = star_stays (support_stays x)

-- ---- How many members

-- the members that a shuffle of p and of q members has, with itself: (p + 1) (q + 1)
grid : {p q a b : ℕ} → suc p ≤ a → suc q ≤ b → suc (p * q + (p + q)) ≤ a * b
grid h k = le_trans (rw (suc-mul, mul-suc) (omega arith)) (mul-le-mul h k)

side : {p q a b : ℕ} → suc p ≤ a → suc q ≤ b → suc (p + q) ≤ a * b
side h k = le_trans (omega arith) (grid h k)

pub support_bound : (e : Expression) → suc (length (support e)) ≤ 2 ^ length (letters e)
unfolding support letters shuffled
support_bound ∅ = le_refl 1
support_bound ε = le_refl 1
support_bound (letter a) = le_refl 2
support_bound (binary union x y) = simp (length-append, pow-add) (side (support_bound x) (support_bound y))
support_bound (binary concatenation x y) = simp (length-append, length-map, pow-add) (side (support_bound x) (support_bound y))
support_bound (binary shuffle x y) = simp (length-append, length-map, length_pairs, pow-add) (grid (support_bound x) (support_bound y))
support_bound (star x) = rw length-map (support_bound x)
