-- The parts of an expression, and those of the members of its support: each is the literal empty word, or a part of the expression or a member of the
-- support of one; with how many these are. Leans on `Support.Inherited` and `support_bound`.
use Prim.Native.Nat.{◌+◌, ◌*◌, ◌^◌, ◌≤◌}
use native.Mathlib.Nat.{le_trans, le_of_eq}
use native.Mathlib.Omega.{arith}
use mathlib.Core.Path.{◌≡◌, refl, ap}
use mathlib.Core.Logic.{⊎_elim}
use mathlib.Core.List.Memᴰ
use mathlib.Core.List.{List, ◌∷◌, ◌++◌, flat_map, Memᴰ}
use lib.ListN.{length, length-append}
use lib.Pow.{pow_mono}
use Rattle.theory.specs.Expression.{Expression, pair, Sign, ∅, ε, letter, binary, star, concatenation, letters, parts, entries}
use Rattle.theory.specs.Derivative.{joined}
use Rattle.theory.specs.Distinct.{Within}
use Rattle.theory.proofs.Pair.{pair_left, pair_right, pair_parts}
use Rattle.theory.proofs.Derivative.{joined_cases}
use Rattle.theory.proofs.Rows.Trees.{parts_length}
use Rattle.theory.proofs.Members.{length_flat_map, to_flat_map}
use Rattle.theory.proofs.Support.{support, support_bound}
use Rattle.theory.proofs.Support.Inherited.{Inherited, inherited}

-- ---- The parts

pub part_whole : (e : Expression) → Memᴰ e (parts e)
unfolding parts
part_whole ∅ = Memᴰ.head refl
part_whole ε = Memᴰ.head refl
part_whole (letter a) = Memᴰ.head refl
part_whole (binary s x y) = Memᴰ.append_right (parts x ++ parts y) (Memᴰ.head refl)
part_whole (star x) = Memᴰ.append_right (parts x) (Memᴰ.head refl)

pub part_inner : (x : Expression) → Within (parts x) (parts (star x))
unfolding parts
part_inner x z h = Memᴰ.append_left _ h

-- A part has no more letters.
part_letters : (e p : Expression) → Memᴰ p (parts e) → length (letters p) ≤ length (letters e)
unfolding letters parts pair
part_letters ∅ p h = le_of_eq (ap (λ t. length (letters t)) (Memᴰ.eq_of_singleton h))
part_letters ε p h = le_of_eq (ap (λ t. length (letters t)) (Memᴰ.eq_of_singleton h))
part_letters (letter a) p h = le_of_eq (ap (λ t. length (letters t)) (Memᴰ.eq_of_singleton h))
part_letters (binary s x y) p h =
    ⊎_elim
    (⊎_elim (λ t. let l = part_letters x p t in rw length-append (omega arith)) (λ t. let l = part_letters y p t in rw length-append (omega arith)))
    (λ e. le_of_eq (ap (λ t. length (letters t)) e)) (pair_parts s x y h)
part_letters (star x) p h =
    ⊎_elim (part_letters x p) (λ t. le_of_eq (ap (λ t. length (letters t)) (Memᴰ.eq_of_singleton t))) (Memᴰ.append_cases (parts x) h)

-- ---- The parts of the members of the support

-- z is the literal empty word, or a part of e, or a member of the support of one.
data Held (e z : Expression) : Type 0 where
  empty : z ≡ ε → Held e z
  member : (p : Expression) → Memᴰ p (parts e) → Memᴰ z (p ∷ support p) → Held e z

abbrev AllHeld : Expression → Expression → Type 0
AllHeld e m = (z : Expression) → Memᴰ z (parts m) → Held e z

held_within : {d e z : Expression} → Within (parts d) (parts e) → Held d z → Held e z
held_within w (empty h) = empty h
held_within w (member p h k) = member p (w p h) k

held_joined : (s : Sign) (e m n : Expression) → AllHeld e m → AllHeld e n → Memᴰ (joined s m n) (support e) → AllHeld e (joined s m n)
held_joined s e =
    joined_cases s (λ m n j. AllHeld e m → AllHeld e n → Memᴰ j (support e) → AllHeld e j) (λ u m l r k. l) (λ u n l r k. r)
    (λ m n l r k z h. ⊎_elim (⊎_elim (l z) (r z)) (λ t. member e (part_whole e) (Memᴰ.tail (Memᴰ.cast t k))) (pair_parts s m n h))

held_inherited : Inherited AllHeld
unfolding parts pair
held_inherited = record {
  itself = λ e z h. member z h (Memᴰ.head refl);
  leaf = λ a z h. empty (Memᴰ.eq_of_singleton h);
  left = λ s x y m k z h. held_within (pair_left s x y) (k z h);
  right = λ s x y m k z h. held_within (pair_right s x y) (k z h);
  both = λ s x y m n k l. held_joined s (binary s x y) m n (λ z h. held_within (pair_left s x y) (k z h)) (λ z h. held_within (pair_right s x y) (l z h));
  again = λ x m k. held_joined concatenation (star x) m (star x) (λ z h. held_within (part_inner x) (k z h)) (λ z h. member z h (Memᴰ.head refl));
}

-- ---- The list that holds them all

pub cover : Expression → List Expression
cover e = ε ∷ flat_map (λ p. p ∷ support p) (parts e)

pub cover_ε : (e z : Expression) → z ≡ ε → Memᴰ z (cover e)
unfolding cover
cover_ε e z h = Memᴰ.head h

pub parts_cover : (e m : Expression) → Memᴰ m (e ∷ support e) → Within (parts m) (cover e)
unfolding cover
parts_cover e m h z k = go (inherited AllHeld held_inherited e m h z k)
  where
    go : Held e z → Memᴰ z (cover e)
    go (empty t) = cover_ε e z t
    go (member p t u) = Memᴰ.tail (to_flat_map (λ p. p ∷ support p) t u)

pub cover_bound : (e : Expression) → length (cover e) ≤ entries e * 2 ^ length (letters e) + 1
unfolding cover
cover_bound e =
    let l = length_flat_map (λ p. p ∷ support p) (2 ^ length (letters e)) (parts e) (λ p h. le_trans (support_bound p) (pow_mono (part_letters e p h))) in
    rw (← parts_length e) (omega arith)
