-- Each letter of a table's tree is the letter of one of its entries. Leans on `Meaning` and `Trees`.
use Prim.Native.Nat.{ℕ, pred, ◌<◌}
use mathlib.Core.Path.{◌≡◌, refl, sym, subst}
use mathlib.Core.Logic.{⊎_elim}
use mathlib.Core.List.Memᴰ
use mathlib.Core.List.{List, Memᴰ}
use lib.ListN.{get_or}
use Rattle.theory.specs.Kind
use Rattle.theory.specs.Expression.{Expression, ∅, letters}
use Rattle.theory.specs.Table.{Table, row, size, tree, row_tree, node, Meaning, ∅_kind, ε_kind, letter_kind, sign_kind, star_kind, unknown_kind, meaning}
use Rattle.theory.proofs.Meaning.{Numbered, numbered}
use Rattle.theory.proofs.Trees.{trees_each}

-- Some entry of the first n is the letter a.
abbrev pub Entered : Table → ℕ → ℕ → Type 0
Entered t n a = (i : ℕ) × (i < n) × ((row t i).kind ≡ Kind.letter) × ((row t i).left ≡ a)

abbrev AllEntered : Table → ℕ → Expression → Type 0
AllEntered t n e = (a : ℕ) → Memᴰ a (letters e) → Entered t n a

node_entered : (t : Table) (n i : ℕ) (k : Meaning) (l r : ℕ) (ts : List Expression) → i < n → Numbered k (row t i).kind → (row t i).left ≡ l
    → ((j : ℕ) → AllEntered t n (get_or ts j ∅)) → AllEntered t n (node k l r ts)
unfolding letters node
node_entered t n i ∅_kind l r ts h p q all a m = absurd (Memᴰ.not-nil m)
node_entered t n i ε_kind l r ts h p q all a m = absurd (Memᴰ.not-nil m)
node_entered t n i letter_kind l r ts h p q all a m = (i, h, p, subst (λ (b : ℕ). (row t i).left ≡ b) (sym (Memᴰ.eq_of_singleton m)) q)
node_entered t n i (sign_kind s) l r ts h p q all a m = ⊎_elim (all l a) (all r a) (Memᴰ.append_cases (letters (get_or ts l ∅)) m)
node_entered t n i star_kind l r ts h p q all a m = all l a m
node_entered t n i unknown_kind l r ts h p q all a m = absurd (Memᴰ.not-nil m)

pub letters_entered : (t : Table) (a : ℕ) → Memᴰ a (letters (tree t)) → Entered t (size t) a
unfolding tree row_tree letters
letters_entered t a m =
    trees_each (AllEntered t (size t)) t (size t) (λ b k. absurd (Memᴰ.not-nil k))
    (λ i l ts h. let w = row t i in node_entered t (size t) i (meaning w.kind) w.left w.right ts l (numbered w.kind) refl h)
    (pred (size t)) a m
