-- What stands after a member of a list, and the members of a list that another does not have.
use mathlib.Core.Path.{◌≡◌, refl, sym, ap, ◌∙◌, subst}
use mathlib.Core.Logic.{◌⊎◌, inl, inr}
use Rattle.std.specs.Prelude.{Option, Some, None}
use Rattle.std.proofs.lemmas.Option.{same_Some}
use mathlib.Core.List.Memᴰ
use mathlib.Core.List.{List, [], ◌∷◌, ◌++◌, map, Memᴰ}
use Rattle.theory.specs.Expression.{Expression, same}
use Rattle.theory.specs.Distinct.{without, distinct, NoRepeats, Within, beyond}
use Rattle.theory.proofs.Distinct.{member?, without_here, without_other, distinct_same, distinct_append}
use Rattle.derive.specs.Walk.{if_yes, behind, first_of}

-- ---- The first member

pub first_none : (xs : List Expression) → first_of xs ≡ None → xs ≡ []
first_none [] e = refl
first_none (x ∷ xs) e = let z : ◌≡◌ {A = List Expression} (x ∷ xs) [] = cc in z

pub first_some : (xs : List Expression) {z : Expression} → first_of xs ≡ Some z → (ys : List Expression) × (xs ≡ z ∷ ys)
first_some [] {z} e = ([], cc)
first_some (x ∷ xs) {z} e = (xs, ap {B = List Expression} (λ y. y ∷ xs) (same_Some x z e))

pub first_member : (xs : List Expression) {z : Expression} → first_of xs ≡ Some z → Memᴰ z xs
first_member xs {z} e = let r = first_some xs e in subst (Memᴰ z) (sym r.1) (Memᴰ.head refl)

pub first_append : (xs ys : List Expression) {z : Expression} → first_of xs ≡ Some z → first_of (xs ++ ys) ≡ Some z
first_append [] ys e = cc
first_append (x ∷ xs) ys e = e

pub first_map : (f : Expression → Expression) (xs : List Expression) {z : Expression} → first_of xs ≡ Some z → first_of (map f xs) ≡ Some (f z)
first_map f [] e = cc
first_map f (x ∷ xs) {z} e = ap {B = Option Expression} (λ y. Some (f y)) (same_Some x z e)

-- ---- After a member

behind_here : (p x : Expression) (xs : List Expression) → p ≡ x → behind p (x ∷ xs) ≡ xs
unfolding behind
behind_here p x xs e = go (same p x)
  where
    go : (d : Dec (p ≡ x)) → if_yes d xs (behind p xs) ≡ xs
    go (yes q) = refl
    go (no n) = absurd (n e)

behind_later : (p x : Expression) (xs : List Expression) → (p ≡ x → ⊥) → behind p (x ∷ xs) ≡ behind p xs
unfolding behind
behind_later p x xs n = go (same p x)
  where
    go : (d : Dec (p ≡ x)) → if_yes d xs (behind p xs) ≡ behind p xs
    go (yes q) = absurd (n q)
    go (no k) = refl

pub behind_within : (p : Expression) (xs : List Expression) → Within (behind p xs) xs
unfolding behind
behind_within p [] z m = m
behind_within p (x ∷ xs) z m = go (same p x) m (λ k. behind_within p xs z k)
  where
    go : (d : Dec (p ≡ x)) → Memᴰ z (if_yes d xs (behind p xs)) → (Memᴰ z (behind p xs) → Memᴰ z xs) → Memᴰ z (x ∷ xs)
    go (yes q) k ih = Memᴰ.tail k
    go (no n) k ih = Memᴰ.tail (ih k)

pub behind_first : (p : Expression) (xs ys : List Expression) → Memᴰ p xs → behind p (xs ++ ys) ≡ behind p xs ++ ys
behind_first p [] ys m = absurd (Memᴰ.not-nil m)
behind_first p (x ∷ xs) ys m = go (same p x) (Memᴰ.cases_cons m) (λ k. behind_first p xs ys k)
  where
    go : Dec (p ≡ x) → (p ≡ x) ⊎ Memᴰ p xs → (Memᴰ p xs → behind p (xs ++ ys) ≡ behind p xs ++ ys)
        → behind p (x ∷ (xs ++ ys)) ≡ behind p (x ∷ xs) ++ ys
    go (yes q) c ih = behind_here p x (xs ++ ys) q ∙ sym (ap (λ l. l ++ ys) (behind_here p x xs q))
    go (no n) (inl e) ih = absurd (n e)
    go (no n) (inr k) ih = behind_later p x (xs ++ ys) n ∙ ih k ∙ sym (ap (λ l. l ++ ys) (behind_later p x xs n))

pub behind_second : (p : Expression) (xs ys : List Expression) → (Memᴰ p xs → ⊥) → behind p (xs ++ ys) ≡ behind p ys
behind_second p [] ys n = refl
behind_second p (x ∷ xs) ys n =
    behind_later p x (xs ++ ys) (λ e. n (Memᴰ.head e)) ∙ behind_second p xs ys (λ m. n (Memᴰ.tail m))

-- A function that tells its argument takes what stands after p to what stands after its value.
pub behind_map : (f : Expression → Expression) → ((x y : Expression) → f x ≡ f y → x ≡ y) → (p : Expression) (xs : List Expression)
    → behind (f p) (map f xs) ≡ map f (behind p xs)
unfolding behind
behind_map f tells p [] = refl
behind_map f tells p (x ∷ xs) = go (same p x) (behind_map f tells p xs)
  where
    go : Dec (p ≡ x) → behind (f p) (map f xs) ≡ map f (behind p xs) → behind (f p) (f x ∷ map f xs) ≡ map f (behind p (x ∷ xs))
    go (yes e) ih = behind_here (f p) (f x) (map f xs) (ap f e) ∙ sym (ap (map f) (behind_here p x xs e))
    go (no n) ih = behind_later (f p) (f x) (map f xs) (λ e. n (tells p x e)) ∙ ih ∙ sym (ap (map f) (behind_later p x xs n))

-- One member further.
pub behind_next : (p q : Expression) (xs ys : List Expression) → NoRepeats xs → behind p xs ≡ q ∷ ys → behind q xs ≡ ys
unfolding behind
behind_next p q [] ys r e = cc
behind_next p q (x ∷ xs) ys r e = go (same p x) (λ k. behind_next p q xs ys r.1 k)
  where
    apart : Memᴰ q xs → q ≡ x → ⊥
    apart m k = r.0 (Memᴰ.cast (sym k) m)

    go : Dec (p ≡ x) → (behind p xs ≡ q ∷ ys → behind q xs ≡ ys) → behind q (x ∷ xs) ≡ ys
    go (yes k) ih =
        let xs_is : xs ≡ q ∷ ys = sym (behind_here p x xs k) ∙ e in
        behind_later q x xs (apart (subst (Memᴰ q) (sym xs_is) (Memᴰ.head refl))) ∙ ap (behind q) xs_is ∙ behind_here q q ys refl
    go (no n) ih =
        let rest : behind p xs ≡ q ∷ ys = sym (behind_later p x xs n) ∙ e in
        behind_later q x xs (apart (behind_within p xs q (subst (Memᴰ q) (sym rest) (Memᴰ.head refl)))) ∙ ih rest

pub behind_head : (q : Expression) (ys : List Expression) → behind q (q ∷ ys) ≡ ys
behind_head q ys = behind_here q q ys refl

-- ---- The members that another list does not have

pub beyond_keep : (xs : List Expression) (y : Expression) (ys : List Expression) → (Memᴰ y xs → ⊥) → beyond same xs (y ∷ ys) ≡ y ∷ beyond same xs ys
unfolding beyond
beyond_keep [] y ys n = refl
beyond_keep (x ∷ xs) y ys n =
    ap (without same x) (beyond_keep xs y ys (λ m. n (Memᴰ.tail m))) ∙ without_other same x y (beyond same xs ys) (λ e. n (Memᴰ.head (sym e)))

pub beyond_pass : (xs : List Expression) (y : Expression) (ys : List Expression) → Memᴰ y xs → beyond same xs (y ∷ ys) ≡ beyond same xs ys
unfolding beyond
beyond_pass [] y ys m = absurd (Memᴰ.not-nil m)
beyond_pass (x ∷ xs) y ys m = go (member? same y xs) (Memᴰ.cases_cons m) (λ k. beyond_pass xs y ys k)
  where
    go : Dec (Memᴰ y xs) → (y ≡ x) ⊎ Memᴰ y xs → (Memᴰ y xs → beyond same xs (y ∷ ys) ≡ beyond same xs ys)
        → without same x (beyond same xs (y ∷ ys)) ≡ without same x (beyond same xs ys)
    go (yes k) c ih = ap (without same x) (ih k)
    go (no n) (inl e) ih = ap (without same x) (beyond_keep xs y ys n) ∙ without_here same x y (beyond same xs ys) (sym e)
    go (no n) (inr k) ih = absurd (n k)

pub distinct_beyond : (xs ys : List Expression) → NoRepeats xs → NoRepeats ys → distinct same (xs ++ ys) ≡ xs ++ beyond same xs ys
distinct_beyond xs ys r s = distinct_append same xs ys ∙ rw (distinct_same same xs r, distinct_same same ys s)

behind_without : (p x : Expression) (ys : List Expression) → (p ≡ x → ⊥) → behind p (without same x ys) ≡ without same x (behind p ys)
unfolding behind without
behind_without p x [] n = refl
behind_without p x (y ∷ ys) n = go (same x y) (same p y) (behind_without p x ys n)
  where
    go : Dec (x ≡ y) → Dec (p ≡ y) → behind p (without same x ys) ≡ without same x (behind p ys)
        → behind p (without same x (y ∷ ys)) ≡ without same x (behind p (y ∷ ys))
    go (yes e) (yes k) ih = absurd (n (k ∙ sym e))
    go (yes e) (no k) ih = ap (behind p) (without_here same x y ys e) ∙ ih ∙ sym (ap (without same x) (behind_later p y ys k))
    go (no e) (yes k) ih =
        ap (behind p) (without_other same x y ys e) ∙ behind_here p y (without same x ys) k ∙ sym (ap (without same x) (behind_here p y ys k))
    go (no e) (no k) ih =
        ap (behind p) (without_other same x y ys e) ∙ behind_later p y (without same x ys) k ∙ ih ∙ sym (ap (without same x) (behind_later p y ys k))

pub behind_beyond : (p : Expression) (xs ys : List Expression) → (Memᴰ p xs → ⊥) → behind p (beyond same xs ys) ≡ beyond same xs (behind p ys)
unfolding beyond
behind_beyond p [] ys n = refl
behind_beyond p (x ∷ xs) ys n =
    behind_without p x (beyond same xs ys) (λ e. n (Memᴰ.head e)) ∙ ap (without same x) (behind_beyond p xs ys (λ m. n (Memᴰ.tail m)))

pub map_no_repeats : (f : Expression → Expression) → ((x y : Expression) → f x ≡ f y → x ≡ y) → (xs : List Expression) → NoRepeats xs
    → NoRepeats (map f xs)
map_no_repeats f tells [] r = tt
map_no_repeats f tells (x ∷ xs) r = (
  λ m. let k = Memᴰ.of_map f xs m in r.0 (Memᴰ.cast (tells x k.0 (sym k.2)) k.1),
  map_no_repeats f tells xs r.1,
)
