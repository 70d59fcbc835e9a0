-- A sign's tree, wherever one is made: what tells it, its answer for the empty word, its size, its parts and its letters. What else is known
-- of it stands in `Language.Joined` and in `Derivative`.
use Prim.Native.Nat.{suc, ◌+◌}
use mathlib.Core.Path.{◌≡◌, refl}
use mathlib.Core.Logic.{◌⊎◌, inl, inr, ⊎_elim}
use mathlib.Core.List.Memᴰ
use mathlib.Core.List.{◌++◌, Memᴰ}
use Rattle.theory.specs.Expression.{Expression, pair, Sign, ∅, ε, letter, binary, star, parts, entries, letters}
use Rattle.theory.specs.Derivative.{empty_word}
use Rattle.theory.specs.Distinct.{Within}

-- ---- What tells it

pub pair_same : (s u : Sign) (x y z w : Expression) → pair s x y ≡ pair u z w → (s ≡ u) × (x ≡ z) × (y ≡ w)
unfolding pair
pair_same s u x y z w e = (cc, cc, cc)

-- A tree with no sign at its root.
abbrev pub Signless : Expression → Type 0
Signless ∅ = Unit {0}
Signless ε = Unit {0}
Signless (letter a) = Unit {0}
Signless (binary s x y) = ⊥
Signless (star x) = Unit {0}

pub pair_signed : (s : Sign) (x y : Expression) → Signless (pair s x y) → ⊥
unfolding pair
pair_signed s x y h = h

-- ---- What it is made of

pub pair_empty_word : (s : Sign) (x y : Expression) → empty_word (pair s x y) ≡ empty_word (binary s x y)
unfolding pair
pair_empty_word s x y = refl

pub pair_entries : (s : Sign) (x y : Expression) → entries (pair s x y) ≡ suc (entries x + entries y)
unfolding pair entries
pair_entries s x y = refl

pub pair_letters : (s : Sign) (x y : Expression) → Within (letters (pair s x y)) (letters x ++ letters y)
unfolding pair letters
pair_letters s x y z h = h

pub pair_left : (s : Sign) (x y : Expression) → Within (parts x) (parts (pair s x y))
unfolding pair parts
pair_left s x y z h = Memᴰ.append_left _ (Memᴰ.append_left (parts y) h)

pub pair_right : (s : Sign) (x y : Expression) → Within (parts y) (parts (pair s x y))
unfolding pair parts
pair_right s x y z h = Memᴰ.append_left _ (Memᴰ.append_right (parts x) h)

pub pair_parts : (s : Sign) (x y : Expression) {z : Expression} → Memᴰ z (parts (pair s x y))
    → (Memᴰ z (parts x) ⊎ Memᴰ z (parts y)) ⊎ (z ≡ pair s x y)
unfolding pair parts
pair_parts s x y h =
    ⊎_elim (λ t. inl (Memᴰ.append_cases (parts x) t)) (λ t. inr (Memᴰ.eq_of_singleton t)) (Memᴰ.append_cases (parts x ++ parts y) h)
