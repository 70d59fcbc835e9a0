-- The list of a derivative is what its two sides have, without repeats, and the sides name rows that are there.
use Prim.Native.Nat.{ℕ, ◌<◌}
use native.Mathlib.Nat.{le_trans, le_of_lt}
use mathlib.Core.Path.{◌≡◌, refl, sym, ap, ap₂, ◌∙◌, subst}
use mathlib.Core.Bool.{Bool, true, false, cond}
use mathlib.Core.List.{List, [], ◌++◌, map, append-nil}
use Rattle.theory.specs.Kind
use Rattle.theory.specs.Expression.{Expression, same, Sign, binary, star, union, concatenation, shuffle}
use Rattle.theory.specs.Distinct.{distinct, NoRepeats}
use Rattle.theory.specs.Derivative.{joined, derivative, empty_word}
use Rattle.theory.specs.Table.{Table, Row, row, tree_at, Meaning, ∅_kind, ε_kind, letter_kind, sign_kind, star_kind, meaning}
use Rattle.theory.proofs.Derivative.{gathered, derivative_gathered, derivative_pair, derivative_no_repeats}
use Rattle.theory.proofs.Meaning.{Numbered, meaning_is, kind_is}
use Rattle.theory.proofs.Members.{map_same}
use Rattle.theory.proofs.Rooted.{Rooted, ∅_row, ε_row, letter_row, sign_row, star_row, rooted}
use Rattle.derive.specs.declared.sides.Join.TheVariants.{Followed}
use Rattle.std.specs.Prelude.{Option, Some, None}
use Rattle.derive.specs.declared.sides.Side.{Side}
use Rattle.derive.specs.Rows.{Rows}
use Rattle.derive.specs.Sides.{WithinRow, beside, side_list, side_of, pick, left_of, right_of, left_side, right_side}
use Rattle.derive.proofs.Joining.{beside_literal, beside_tells}
use Rattle.derive.proofs.Listing.{map_no_repeats}

-- ---- The sides of a row that is read

-- w is row i as the code has read it.
module _ (t : Table) (i : ℕ) {w : Row} (e : w ≡ row t i) where
  pub left_as : (m : Meaning) → Numbered m w.kind → left_of m w.left w.right i ≡ left_side t i
  unfolding left_side
  left_as m h =
      ap (λ k. left_of k w.left w.right i) (sym (meaning_is m w.kind h))
      ∙ ap (λ (v : Row). left_of (meaning v.kind) v.left v.right i) e

  pub right_as : (m : Meaning) → Numbered m w.kind → right_of m w.left w.right (empty_word (tree_at t w.left)) ≡ right_side t i
  unfolding right_side
  right_as m h =
      ap (λ k. right_of k w.left w.right (empty_word (tree_at t w.left))) (sym (meaning_is m w.kind h))
      ∙ ap (λ (v : Row). right_of (meaning v.kind) v.left v.right (empty_word (tree_at t v.left))) e

-- ---- The lists

-- A side without a join is the child's list.
plain : {t : Table} {n : ℕ} → Rows t n → (a c : ℕ) → side_list a t (side_of c 0 Followed) ≡ derivative a (tree_at t c)
plain {t} h a c =
    map_same (beside Followed (tree_at t 0)) (λ m. ap (λ o. beside Followed o m) h.literal ∙ beside_literal Followed m) (derivative a (tree_at t c))

pub side_no_repeats : (a : ℕ) (t : Table) (side : Option Side) → NoRepeats (side_list a t side)
side_no_repeats a t None = tt
side_no_repeats a t (Some s) =
    map_no_repeats (beside s.join (tree_at t s.other)) (beside_tells s.join (tree_at t s.other)) (derivative a (tree_at t s.child))
    (derivative_no_repeats a (tree_at t s.child))

module _ {t : Table} {n : ℕ} (h : Rows t n) (a i : ℕ) where
  -- The list of a row is that of these two sides.
  abbrev Lists : Option Side → Option Side → Type 0
  Lists b c = derivative a (tree_at t i) ≡ distinct same (side_list a t b ++ side_list a t c)

  -- A sign's list, by the sign.
  sign_lists : (s : Sign) (l r : ℕ) → derivative a (tree_at t i) ≡ distinct same (gathered a (binary s (tree_at t l) (tree_at t r)))
      → Lists (left_of (sign_kind s) l r i) (right_of (sign_kind s) l r (empty_word (tree_at t l)))
  unfolding gathered
  sign_lists union l r e = e ∙ sym (ap₂ (λ b c. distinct same (b ++ c)) (plain h a l) (plain h a r))
  sign_lists concatenation l r e = e ∙ go (empty_word (tree_at t l))
    where
      ms : List Expression
      ms = map (λ z. joined concatenation z (tree_at t r)) (derivative a (tree_at t l))

      go : (b : Bool)
          → distinct same (ms ++ cond b (derivative a (tree_at t r)) []) ≡ distinct same (ms ++ side_list a t (pick b (side_of r 0 Followed) None))
      go true = ap (λ c. distinct same (ms ++ c)) (sym (plain h a r))
      go false = refl
  sign_lists shuffle l r e = e

  star_lists : (l : ℕ) → tree_at t i ≡ star (tree_at t l) → Lists (side_of l i Followed) None
  unfolding gathered
  star_lists l e =
      ap (derivative a) e ∙ derivative_gathered a (star (tree_at t l))
      ∙ ap (λ o. distinct same (map (λ z. joined concatenation z o) (derivative a (tree_at t l)))) (sym e)
      ∙ ap (distinct same) (sym (append-nil (map (λ z. joined concatenation z (tree_at t i)) (derivative a (tree_at t l)))))

  by_root : Rooted t i → ((row t i).kind ≡ Kind.letter → ⊥) → Lists (left_side t i) (right_side t i)
  unfolding gathered distinct
  by_root (∅_row e tr) d =
      ap (derivative a) tr ∙ derivative_gathered a _
      ∙ ap₂ (λ b c. distinct same (side_list a t b ++ side_list a t c)) (left_as t i (sym e) ∅_kind refl) (right_as t i (sym e) ∅_kind refl)
  by_root (ε_row e tr) d =
      ap (derivative a) tr ∙ derivative_gathered a _
      ∙ ap₂ (λ b c. distinct same (side_list a t b ++ side_list a t c)) (left_as t i (sym e) ε_kind refl) (right_as t i (sym e) ε_kind refl)
  by_root (letter_row b e tr) d = absurd (d (kind_is e))
  by_root (sign_row s l r hl hr e tr) d =
      sign_lists s l r (ap (derivative a) tr ∙ derivative_pair a s (tree_at t l) (tree_at t r))
      ∙ ap₂ (λ b c. distinct same (side_list a t b ++ side_list a t c)) (left_as t i (sym e) (sign_kind s) refl)
      (right_as t i (sym e) (sign_kind s) refl)
  by_root (star_row l hl e tr) d =
      star_lists l tr
      ∙ ap₂ (λ b c. distinct same (side_list a t b ++ side_list a t c)) (left_as t i (sym e) star_kind refl) (right_as t i (sym e) star_kind refl)

  pub derivative_sides : i < n → ((row t i).kind ≡ Kind.letter → ⊥) → Lists (left_side t i) (right_side t i)
  derivative_sides l = by_root (rooted t i (h.sound i l))

-- ---- The rows that a side names

module _ {t : Table} {n : ℕ} (h : Rows t n) {i : ℕ} (l : i < n) where
  left_sign : (s : Sign) (x y : ℕ) → x < i → y < i → WithinRow n i (left_of (sign_kind s) x y i)
  left_sign union x y hx hy = (hx, h.nonempty)
  left_sign concatenation x y hx hy = (hx, le_trans hy (le_of_lt l))
  left_sign shuffle x y hx hy = (hx, le_trans hy (le_of_lt l))

  right_sign : (s : Sign) (x y : ℕ) → x < i → y < i → (b : Bool) → WithinRow n i (right_of (sign_kind s) x y b)
  right_sign union x y hx hy b = (hy, h.nonempty)
  right_sign concatenation x y hx hy true = (hy, h.nonempty)
  right_sign concatenation x y hx hy false = tt
  right_sign shuffle x y hx hy b = (hy, le_trans hx (le_of_lt l))

  left_within : Rooted t i → WithinRow n i (left_side t i)
  left_within (∅_row e tr) = subst (WithinRow n i) (left_as t i (sym e) ∅_kind refl) tt
  left_within (ε_row e tr) = subst (WithinRow n i) (left_as t i (sym e) ε_kind refl) tt
  left_within (letter_row a e tr) = subst (WithinRow n i) (left_as t i (sym e) letter_kind refl) tt
  left_within (sign_row s x y hx hy e tr) = subst (WithinRow n i) (left_as t i (sym e) (sign_kind s) refl) (left_sign s x y hx hy)
  left_within (star_row x hx e tr) = subst (WithinRow n i) (left_as t i (sym e) star_kind refl) (hx, l)

  right_within : Rooted t i → WithinRow n i (right_side t i)
  right_within (∅_row e tr) = subst (WithinRow n i) (right_as t i (sym e) ∅_kind refl) tt
  right_within (ε_row e tr) = subst (WithinRow n i) (right_as t i (sym e) ε_kind refl) tt
  right_within (letter_row a e tr) = subst (WithinRow n i) (right_as t i (sym e) letter_kind refl) tt
  right_within (sign_row s x y hx hy e tr) =
      subst (WithinRow n i) (right_as t i (sym e) (sign_kind s) refl) (right_sign s x y hx hy (empty_word (tree_at t x)))
  right_within (star_row x hx e tr) = subst (WithinRow n i) (right_as t i (sym e) star_kind refl) tt

  pub left_side_within : WithinRow n i (left_side t i)
  left_side_within = left_within (rooted t i (h.sound i l))

  pub right_side_within : WithinRow n i (right_side t i)
  right_side_within = right_within (rooted t i (h.sound i l))
