-- What an expression hands on to the members of its support: a statement about an expression and a member holds for all of them where the joining
-- rules and the signs keep it. Leans on `Support` alone.
use Prim.Native.Nat.{ℕ}
use mathlib.Core.Path.{sym, subst}
use mathlib.Core.Logic.{⊎_elim}
use mathlib.Core.List.Memᴰ
use mathlib.Core.List.{◌∷◌, map, Memᴰ}
use Rattle.theory.specs.Expression.{Expression, Sign, ∅, ε, letter, binary, star, union, concatenation, shuffle}
use Rattle.theory.specs.Derivative.{joined}
use Rattle.theory.proofs.Support.{followed_by, support, shuffled_of}

pub record Inherited (P : Expression → Expression → Type 0) : Type 0 where
  pub itself : (e : Expression) → P e e
  pub leaf : (a : ℕ) → P (letter a) ε
  pub left : (s : Sign) (x y m : Expression) → P x m → P (binary s x y) m
  pub right : (s : Sign) (x y m : Expression) → P y m → P (binary s x y) m
  pub both : (s : Sign) (x y m n : Expression) → P x m → P y n → Memᴰ (joined s m n) (support (binary s x y)) → P (binary s x y) (joined s m n)
  pub again : (x m : Expression) → P x m → Memᴰ (joined concatenation m (star x)) (support (star x)) → P (star x) (joined concatenation m (star x))

module _ (P : Expression → Expression → Type 0) (i : Inherited P) where
  -- The members are known of x and of y; each sign has its lemma.
  module _ (x y : Expression) (l : (m : Expression) → Memᴰ m (x ∷ support x) → P x m) (r : (m : Expression) → Memᴰ m (y ∷ support y) → P y m) where
    union_inherited : (m : Expression) → Memᴰ m (support (binary union x y)) → P (binary union x y) m
    unfolding support
    union_inherited m h =
        ⊎_elim (λ t. i.left union x y m (l m (Memᴰ.tail t))) (λ t. i.right union x y m (r m (Memᴰ.tail t))) (Memᴰ.append_cases (support x) h)

    concatenation_inherited : (m : Expression) → Memᴰ m (support (binary concatenation x y)) → P (binary concatenation x y) m
    unfolding support
    concatenation_inherited m h =
        ⊎_elim
        (λ t. let f = Memᴰ.of_map (followed_by y) (support x) t in
        subst (P (binary concatenation x y)) f.2
        (i.both concatenation x y f.0 y (l f.0 (Memᴰ.tail f.1)) (i.itself y) (Memᴰ.cast f.2 h)))
        (λ t. i.right concatenation x y m (r m (Memᴰ.tail t))) (Memᴰ.append_cases (map (followed_by y) (support x)) h)

    shuffle_inherited : (m : Expression) → Memᴰ m (support (binary shuffle x y)) → P (binary shuffle x y) m
    unfolding support
    shuffle_inherited m h =
        let f = shuffled_of x y (support x) (support y) h in
        subst (P (binary shuffle x y)) f.4 (i.both shuffle x y f.0 f.1 (l f.0 f.2) (r f.1 f.3) (Memᴰ.cast f.4 h))

  star_inherited : (x : Expression) → ((m : Expression) → Memᴰ m (x ∷ support x) → P x m) → (m : Expression)
      → Memᴰ m (support (star x)) → P (star x) m
  unfolding support
  star_inherited x l m h =
      let f = Memᴰ.of_map (followed_by (star x)) (support x) h in
      subst (P (star x)) f.2 (i.again x f.0 (l f.0 (Memᴰ.tail f.1)) (Memᴰ.cast f.2 h))

  letter_inherited : (a : ℕ) (m : Expression) → Memᴰ m (support (letter a)) → P (letter a) m
  unfolding support
  letter_inherited a m h = subst (P (letter a)) (sym (Memᴰ.eq_of_singleton h)) (i.leaf a)

  -- The expression itself beside the members of its support.
  beside : (e : Expression) → ((m : Expression) → Memᴰ m (support e) → P e m) → (m : Expression) → Memᴰ m (e ∷ support e) → P e m
  beside e k m h = ⊎_elim (λ t. subst (P e) (sym t) (i.itself e)) (k m) (Memᴰ.cases_cons h)

  pub inherited : (e m : Expression) → Memᴰ m (e ∷ support e) → P e m
  unfolding support
  inherited ∅ = beside ∅ (λ m h. absurd (Memᴰ.not-nil h))
  inherited ε = beside ε (λ m h. absurd (Memᴰ.not-nil h))
  inherited (letter a) = beside (letter a) (letter_inherited a)
  inherited (binary union x y) = beside (binary union x y) (union_inherited x y (inherited x) (inherited y))
  inherited (binary concatenation x y) = beside (binary concatenation x y) (concatenation_inherited x y (inherited x) (inherited y))
  inherited (binary shuffle x y) = beside (binary shuffle x y) (shuffle_inherited x y (inherited x) (inherited y))
  inherited (star x) = beside (star x) (star_inherited x (inherited x))
