-- A member joined with the other tree of a side: the three cases, that the join tells the member, and its parts.
use native.Mathlib.Omega.{arith}
use mathlib.Core.Path.{◌≡◌, refl, sym, ap, ◌∙◌, subst}
use mathlib.Core.Logic.{◌⊎◌, inl, inr}
use mathlib.Core.List.Memᴰ
use mathlib.Core.List.{Memᴰ}
use Rattle.theory.specs.Expression.{Expression, same, pair, ε, concatenation, shuffle, parts, entries}
use Rattle.theory.proofs.Derivative.{joined_right, joined_left, joined_neither}
use Rattle.theory.proofs.Pair.{pair_same, pair_entries, pair_left, pair_right}
use Rattle.derive.specs.declared.sides.Join.{Join}
use Rattle.derive.specs.declared.sides.Join.TheVariants.{Followed, Shuffled, Shuffles}
use Rattle.derive.specs.Sides.{join_sign, arranged, beside}

-- The sign's tree of m and o, in the order of the join.
abbrev pub paired : Join → Expression → Expression → Expression
paired j o m = arranged j (pair (join_sign j)) m o

-- ---- The three cases

pub beside_literal : (j : Join) (m : Expression) → beside j ε m ≡ m
beside_literal Followed m = joined_right concatenation refl m
beside_literal Shuffled m = joined_right shuffle refl m
beside_literal Shuffles m = joined_left shuffle refl m

pub beside_ε : (j : Join) (o : Expression) → beside j o ε ≡ o
beside_ε Followed o = joined_left concatenation refl o
beside_ε Shuffled o = joined_left shuffle refl o
beside_ε Shuffles o = joined_right shuffle refl o

pub beside_pair : (j : Join) (o m : Expression) → (o ≡ ε → ⊥) → (m ≡ ε → ⊥) → beside j o m ≡ paired j o m
beside_pair Followed o m ko km = joined_neither concatenation m o km ko
beside_pair Shuffled o m ko km = joined_neither shuffle m o km ko
beside_pair Shuffles o m ko km = joined_neither shuffle o m ko km

-- ---- The join tells the member

pair_larger : (j : Join) (o m : Expression) → paired j o m ≡ o → ⊥
pair_larger Followed o m e = omega (arith, ap entries e, pair_entries concatenation m o)
pair_larger Shuffled o m e = omega (arith, ap entries e, pair_entries shuffle m o)
pair_larger Shuffles o m e = omega (arith, ap entries e, pair_entries shuffle o m)

-- A pair tells both its trees.
pub paired_same : (j : Join) (o m o' m' : Expression) → paired j o m ≡ paired j o' m' → (o ≡ o') × (m ≡ m')
paired_same Followed o m o' m' e = let p = pair_same concatenation concatenation m o m' o' e in (p.2, p.1)
paired_same Shuffled o m o' m' e = let p = pair_same shuffle shuffle m o m' o' e in (p.2, p.1)
paired_same Shuffles o m o' m' e = let p = pair_same shuffle shuffle o m o' m' e in (p.1, p.2)

pub beside_tells : (j : Join) (o x y : Expression) → beside j o x ≡ beside j o y → x ≡ y
beside_tells j o x y e = go (same o ε) (same x ε) (same y ε)
  where
    go : Dec (o ≡ ε) → Dec (x ≡ ε) → Dec (y ≡ ε) → x ≡ y
    go (yes p) dx dy =
        let with : (m : Expression) → beside j o m ≡ m = λ m. ap (λ z. beside j z m) p ∙ beside_literal j m in
        sym (with x) ∙ e ∙ with y
    go (no n) (yes p) (yes q) = p ∙ sym q
    go (no n) (yes p) (no k) = absurd (pair_larger j o y (sym (beside_pair j o y n k) ∙ sym e ∙ ap (beside j o) p ∙ beside_ε j o))
    go (no n) (no k) (yes q) = absurd (pair_larger j o x (sym (beside_pair j o x n k) ∙ e ∙ ap (beside j o) q ∙ beside_ε j o))
    go (no n) (no k) (no l) = (paired_same j o x o y (sym (beside_pair j o x n k) ∙ e ∙ beside_pair j o y n l)).1

-- ---- Parts

paired_parts : (j : Join) (o m : Expression) {z : Expression} → Memᴰ z (parts m) → Memᴰ z (parts (paired j o m))
paired_parts Followed o m k = pair_left concatenation m o _ k
paired_parts Shuffled o m k = pair_left shuffle m o _ k
paired_parts Shuffles o m k = pair_right shuffle o m _ k

-- Each part of a member is the literal empty word or a part of the join.
pub beside_parts : (j : Join) (o m : Expression) {z : Expression} → Memᴰ z (parts m) → (z ≡ ε) ⊎ Memᴰ z (parts (beside j o m))
unfolding parts
beside_parts j o m {z} k = go (same o ε) (same m ε)
  where
    go : Dec (o ≡ ε) → Dec (m ≡ ε) → (z ≡ ε) ⊎ Memᴰ z (parts (beside j o m))
    go (yes p) d = inr (subst (λ x. Memᴰ z (parts x)) (sym (ap (λ z. beside j z m) p ∙ beside_literal j m)) k)
    go (no n) (yes q) = inl (Memᴰ.eq_of_singleton (subst (λ x. Memᴰ z (parts x)) q k))
    go (no n) (no l) = inr (subst (λ x. Memᴰ z (parts x)) (sym (beside_pair j o m n l)) (paired_parts j o m k))
