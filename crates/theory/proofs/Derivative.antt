-- The list by a letter from the lists of the parts; that it repeats nothing; and that the joining rules bring no
-- member, for any sign. Leans on `Repeats` and `Members`.
use Prim.Native.Nat.{ℕ}
use mathlib.Core.Path.{◌≡◌, refl, sym, ◌∙◌, subst}
use mathlib.Core.Bool.{Bool, true, false, false≢true, cond, ◌&&◌}
use mathlib.Core.List.{List, [], ◌∷◌, ◌++◌, map, append-nil}
use lib.Dec.{eqb}
use Rattle.theory.specs.Expression.{Expression, same, pair, Sign, ∅, ε, letter, binary, star, union, concatenation, shuffle}
use Rattle.theory.specs.Distinct.{distinct, NoRepeats, Within}
use Rattle.theory.specs.Derivative.{empty_word, literal_ε, has_unit, joined, listed, derivative}
use Rattle.theory.proofs.Distinct.{distinct_of, to_distinct, distinct_no_repeats}
use Rattle.theory.proofs.Repeats.{Alike, alike_distinct, alike_append, alike_map}
use Rattle.theory.proofs.Members.{map_same}

-- ---- The list by a letter from the parts' lists

-- The list before its repeats are taken out.
unfoldable pub gathered : ℕ → Expression → List Expression
gathered a ∅ = []
gathered a ε = []
gathered a (letter b) = cond (eqb a b) (ε ∷ []) []
gathered a (binary union x y) = derivative a x ++ derivative a y
gathered a (binary concatenation x y) = map (λ m. joined concatenation m y) (derivative a x) ++ cond (empty_word x) (derivative a y) []
gathered a (binary shuffle x y) = map (λ m. joined shuffle m y) (derivative a x) ++ map (λ m. joined shuffle x m) (derivative a y)
gathered a (star x) = map (λ m. joined concatenation m (star x)) (derivative a x)

alike_listed : (a : ℕ) (e : Expression) → Alike same (listed a e) (derivative a e)
unfolding derivative
alike_listed a e = alike_distinct same (listed a e)

alike_joined : (a : ℕ) (f : Expression → Expression) (e : Expression) → Alike same (map f (listed a e)) (map f (derivative a e))
unfolding derivative
alike_joined a f e = alike_map same same f (listed a e)

alike_gathered : (a : ℕ) (e : Expression) → Alike same (listed a e) (gathered a e)
unfolding listed gathered
alike_gathered a ∅ = record { once = refl }
alike_gathered a ε = record { once = refl }
alike_gathered a (letter b) = record { once = refl }
alike_gathered a (binary union x y) = alike_append same (alike_listed a x) (alike_listed a y)
alike_gathered a (binary concatenation x y) = alike_append same (alike_joined a (λ m. joined concatenation m y) x) (go (empty_word x))
  where
    go : (t : Bool) → Alike same (cond t (listed a y) []) (cond t (derivative a y) [])
    go true = alike_listed a y
    go false = record { once = refl }
alike_gathered a (binary shuffle x y) =
    alike_append same (alike_joined a (λ m. joined shuffle m y) x) (alike_joined a (λ m. joined shuffle x m) y)
alike_gathered a (star x) = alike_joined a (λ m. joined concatenation m (star x)) x

pub derivative_gathered : (a : ℕ) (e : Expression) → derivative a e ≡ distinct same (gathered a e)
unfolding derivative
derivative_gathered a e = (alike_gathered a e).once

pub derivative_pair : (a : ℕ) (s : Sign) (x y : Expression) → derivative a (pair s x y) ≡ distinct same (gathered a (binary s x y))
unfolding pair
derivative_pair a s x y = derivative_gathered a (binary s x y)

pub derivative_no_repeats : (a : ℕ) (e : Expression) → NoRepeats (derivative a e)
unfolding derivative
derivative_no_repeats a e = distinct_no_repeats same (listed a e)

pub derivative_of : (a : ℕ) (e : Expression) → Within (derivative a e) (gathered a e)
derivative_of a e z m = distinct_of same (gathered a e) z (rw (derivative_gathered a e) at m)

-- ---- Joining

literal_ε_only : (x : Expression) → literal_ε x ≡ true → x ≡ ε
unfolding literal_ε
literal_ε_only ∅ h = absurd (false≢true h)
literal_ε_only ε h = refl
literal_ε_only (letter a) h = absurd (false≢true h)
literal_ε_only (binary s x y) h = absurd (false≢true h)
literal_ε_only (star x) h = absurd (false≢true h)

not_literal_ε : (x : Expression) → (x ≡ ε → ⊥) → literal_ε x ≡ false
unfolding literal_ε
not_literal_ε ∅ n = refl
not_literal_ε ε n = absurd (n refl)
not_literal_ε (letter a) n = refl
not_literal_ε (binary s x y) n = refl
not_literal_ε (star x) n = refl

-- The joining rules as the cases of a proof.
pub joined_cases : (s : Sign) (P : Expression → Expression → Expression → Type 0) → (has_unit s ≡ true → (x : Expression) → P x ε x)
    → (has_unit s ≡ true → (y : Expression) → P ε y y) → ((x y : Expression) → P x y (pair s x y)) → (x y : Expression) → P x y (joined s x y)
unfolding joined
joined_cases s P right left neither x y = go (has_unit s) refl (literal_ε y) refl (literal_ε x) refl
  where
    go : (u : Bool) → has_unit s ≡ u → (t : Bool) → literal_ε y ≡ t → (v : Bool) → literal_ε x ≡ v
        → P x y (cond (u && t) x (cond (u && v) y (pair s x y)))
    go true h true p v q = subst (λ z. P x z x) (sym (literal_ε_only y p)) (right h x)
    go true h false p true q = subst (λ z. P z y y) (sym (literal_ε_only x q)) (left h y)
    go true h false p false q = neither x y
    go false h t p v q = neither x y

pub joined_right : (s : Sign) → has_unit s ≡ true → (x : Expression) → joined s x ε ≡ x
unfolding joined
joined_right s h x = rw h

pub joined_left : (s : Sign) → has_unit s ≡ true → (y : Expression) → joined s ε y ≡ y
unfolding joined
joined_left s h y = rw h (go (literal_ε y) refl)
  where
    go : (t : Bool) → literal_ε y ≡ t → cond t ε y ≡ y
    go true p = sym (literal_ε_only y p)
    go false p = refl

pub joined_neither : (s : Sign) (x y : Expression) → (x ≡ ε → ⊥) → (y ≡ ε → ⊥) → joined s x y ≡ pair s x y
unfolding joined
joined_neither s x y nx ny = rw (not_literal_ε y ny, not_literal_ε x nx) (go (has_unit s))
  where
    go : (u : Bool) → cond (u && false) x (cond (u && false) y (pair s x y)) ≡ pair s x y
    go true = refl
    go false = refl

-- ---- Joining and the list

map_ε : (s : Sign) → has_unit s ≡ true → (xs : List Expression) → map (λ m. joined s m ε) xs ++ [] ≡ xs
map_ε s h xs = append-nil _ ∙ map_same (λ m. joined s m ε) (joined_right s h) xs

gathered_right : (s : Sign) → has_unit s ≡ true → (a : ℕ) (x : Expression) → gathered a (binary s x ε) ≡ derivative a x
unfolding gathered derivative
gathered_right union h a x = absurd (false≢true h)
gathered_right concatenation h a x = go (empty_word x)
  where
    go : (t : Bool) → map (λ m. joined concatenation m ε) (derivative a x) ++ cond t [] [] ≡ derivative a x
    go true = map_ε concatenation h (derivative a x)
    go false = map_ε concatenation h (derivative a x)
gathered_right shuffle h a x = map_ε shuffle h (derivative a x)

gathered_left : (s : Sign) → has_unit s ≡ true → (a : ℕ) (y : Expression) → gathered a (binary s ε y) ≡ derivative a y
unfolding gathered derivative empty_word
gathered_left union h a y = absurd (false≢true h)
gathered_left concatenation h a y = refl
gathered_left shuffle h a y = map_same (λ m. joined shuffle ε m) (joined_left shuffle h) (derivative a y)

-- Where the list of an expression e, before its repeats are taken out, is that of d, the members of d's list are in e's.
gathered_known : (a : ℕ) (d e : Expression) → gathered a e ≡ derivative a d → Within (derivative a d) (derivative a e)
gathered_known a d e h z m = rw (derivative_gathered a e) (to_distinct same (gathered a e) z (rw h m))

pair_within : (s : Sign) (a : ℕ) (x y : Expression) → Within (derivative a (pair s x y)) (derivative a (binary s x y))
unfolding pair
pair_within s a x y z m = m

pub joined_within : (s : Sign) (a : ℕ) (x y : Expression) → Within (derivative a (joined s x y)) (derivative a (binary s x y))
joined_within s a =
    joined_cases s (λ x y z. Within (derivative a z) (derivative a (binary s x y))) (λ h x. gathered_known a x (binary s x ε) (gathered_right s h a x))
    (λ h y. gathered_known a y (binary s ε y) (gathered_left s h a y)) (pair_within s a)
