-- What a table without refusal gives its callers: its columns, each entry and the naming; how many entries and letters its tree has; the
-- range of the tree's letters. Leans on `Sum` and `Trees`.
use Prim.Native.Nat.{ℕ, zero, suc, pred, ◌+◌, ◌≤◌, ◌<◌}
use native.Mathlib.Nat.{le_refl, le_trans}
use native.Mathlib.Decide.{ℕ_discrete, dec_lt}
use native.Mathlib.Omega.{arith}
use mathlib.Core.Path.{◌≡◌, refl, sym, ap, ◌∙◌, subst}
use mathlib.Core.Logic.{◌⊎◌, inl, inr, ⊎_elim}
use mathlib.Core.Bool.{Bool, true, false, cond, not, ◌&&◌, false≢true}
use mathlib.Core.List.Memᴰ
use mathlib.Core.List.{List, [], ◌∷◌, Memᴰ}
use lib.ListN.{length, get_or, length-append}
use lib.Dec.{eqb, leb, ltb}
use borrow.Author.Tests.{eq-eqb, ne_eqb, eqb-true, eqb-false, leb-true, ltb-true, ltb-false}
use Rattle.theory.specs.Kind
use Rattle.theory.specs.Limit.{most_entries, last_letter}
use Rattle.theory.specs.Expression.{Expression, ∅, entries, letters}
use Rattle.theory.specs.Refusal.{Refusal, refusal, or_else, kind_unknown, field_outside, child_not_smaller, empty_language_inside}
use Rattle.theory.specs.Below.{count_below}
use Rattle.theory.specs.Table.{Table, Row, row, size, tree, tree_at, trees, row_tree, node, Meaning, ∅_kind, ε_kind, letter_kind, sign_kind, star_kind, unknown_kind, meaning, fields_fit, children, row_children, all_smaller, entry_fault, named, naming_fault, table_refusal, SameLengths, Faultless, WellFormed}
use Rattle.theory.proofs.Meaning.{Numbered, numbered, meaning_is}
use Rattle.theory.proofs.FirstFault.{none_at}
use Rattle.theory.proofs.Times.{once_of}
use Rattle.theory.proofs.TableRefusal.{refused_differ, refused_empty, refused_long, refused_later}
use Rattle.theory.proofs.Sum.{sum_below, sum_over, sum_cong, sum_add, sum_last, sum_ones, sum_count, over_append, over_cong, over_once}
use Rattle.theory.proofs.Trees.{trees_below, trees_each}

-- 01: "A child's number is smaller than its parent's."
pub smaller_of : (i : ℕ) (cs : List ℕ) → all_smaller i cs ≡ true → (c : ℕ) → Memᴰ c cs → c < i
unfolding all_smaller
smaller_of i [] e c m = absurd (Memᴰ.not-nil m)
smaller_of i (d ∷ ds) e c m = go (ltb d i) refl e (λ h k. smaller_of i ds h c k) (Memᴰ.cases_cons m)
  where
    go : (b : Bool) → ltb d i ≡ b → (b && all_smaller i ds) ≡ true → (all_smaller i ds ≡ true → Memᴰ c ds → c < i) → (c ≡ d) ⊎ Memᴰ c ds → c < i
    go true q h rest (inl p) = subst (λ (k : ℕ). k < i) (sym p) (ltb-true d i q)
    go true q h rest (inr k) = rest h k
    go false q h rest k = absurd (false≢true h)

faultless_of : (n i : ℕ) (w : Row) → entry_fault n i w ≡ 0 → Faultless n i w
unfolding entry_fault
faultless_of n i w e =
    go (ltb Kind.last w.kind) (fields_fit (meaning w.kind) w.left w.right) (all_smaller i (row_children w))
    (eqb w.kind Kind.empty_language) (ltb 1 n) refl refl refl refl refl e
  where
    go : (a b c d e : Bool) → ltb Kind.last w.kind ≡ a → fields_fit (meaning w.kind) w.left w.right ≡ b → all_smaller i (row_children w) ≡ c
        → eqb w.kind Kind.empty_language ≡ d → ltb 1 n ≡ e
        → cond a kind_unknown (cond (not b) field_outside (cond (not c) child_not_smaller (cond (d && e) empty_language_inside 0))) ≡ 0
        → Faultless n i w
    go true b c d e p q r s u z = absurd (omega arith)
    go false false c d e p q r s u z = absurd (omega arith)
    go false true false d e p q r s u z = absurd (omega arith)
    go false true true true true p q r s u z = absurd (omega arith)
    go false true true true false p q r s u z =
        record { known = ltb-false Kind.last w.kind p; fits = q; smaller = smaller_of i (row_children w) r; alone = λ _. ltb-false 1 n u }
    go false true true false e p q r s u z =
        record {
          known = ltb-false Kind.last w.kind p;
          fits = q;
          smaller = smaller_of i (row_children w) r;
          alone = λ k. absurd (eqb-false w.kind Kind.empty_language s k);
        }

both_clear : (r s : Refusal) → (or_else r s).number ≡ 0 → (r.number ≡ 0) × (s.number ≡ 0)
both_clear r s e = go (eqb r.number 0) refl e
  where
    go : (b : Bool) → eqb r.number 0 ≡ b → (cond b s r).number ≡ 0 → (r.number ≡ 0) × (s.number ≡ 0)
    go true q z = (eqb-true r.number 0 q, z)
    go false q z = absurd (eqb-false r.number 0 q z)

pub well_formed : (t : Table) → (table_refusal t).number ≡ 0 → WellFormed t
well_formed t e = first (ℕ_discrete (length t.left) (size t)) (ℕ_discrete (length t.right) (size t))
  where
    not_with : {k p : ℕ} → table_refusal t ≡ refusal k p → k ≡ 0
    not_with q = sym (ap (λ (r : Refusal). r.number) q) ∙ e

    third : SameLengths t → (size t ≡ 0 → ⊥) → Dec (most_entries < size t) → WellFormed t
    third v n (yes l) = absurd (let z = not_with (refused_long t v n l) in omega arith)
    third v n (no m) =
        let l : size t ≤ most_entries = omega arith in
        let z = both_clear _ _ (sym (ap (λ (r : Refusal). r.number) (refused_later t v n l)) ∙ e) in
        record {
          lengths = v;
          nonempty = omega arith;
          short = l;
          faultless = λ i h.
              faultless_of (size t) i (row t i) (none_at (λ j. entry_fault (size t) j (row t j)) 0 (size t) z.0 i (omega arith) (omega arith));
          once = λ i h. once_of t i (none_at (naming_fault t) 0 (pred (size t)) z.1 i (omega arith) (omega arith));
        }

    second : SameLengths t → Dec (size t ≡ 0) → WellFormed t
    second v (yes z) = absurd (let q = not_with (refused_empty t v z) in omega arith)
    second v (no n) = third v n (dec_lt most_entries (size t))

    first : Dec (length t.left ≡ size t) → Dec (length t.right ≡ size t) → WellFormed t
    first (yes p) (yes q) = second (p, q) (ℕ_discrete (size t) 0)
    first (yes p) (no n) = absurd (let z = not_with (refused_differ t (λ v. n v.1)) in omega arith)
    first (no n) d = absurd (let z = not_with (refused_differ t (λ v. n v.0)) in omega arith)

-- ---- Counts that add up over a row's children

-- A letter counts for one, and no other row by itself.
one_letter : Meaning → ℕ
one_letter ∅_kind = 0
one_letter ε_kind = 0
one_letter letter_kind = 1
one_letter (sign_kind s) = 0
one_letter star_kind = 0
one_letter unknown_kind = 0

letters_add : (m : Meaning) (l r : ℕ) (ts : List Expression)
    → length (letters (node m l r ts)) ≡ one_letter m + sum_over (λ c. length (letters (get_or ts c ∅))) (children m l r)
unfolding letters node children one_letter sum_over
letters_add ∅_kind l r ts = refl
letters_add ε_kind l r ts = refl
letters_add letter_kind l r ts = refl
letters_add (sign_kind s) l r ts = omega (arith, length-append (letters (get_or ts l ∅)) (letters (get_or ts r ∅)))
letters_add star_kind l r ts = omega arith
letters_add unknown_kind l r ts = refl

of_kind : (k : ℕ) → one_letter (meaning k) ≡ cond (eqb k Kind.letter) 1 0
unfolding one_letter
of_kind k = go (ℕ_discrete k Kind.letter)
  where
    other : (m : Meaning) → Numbered m k → (k ≡ Kind.letter → ⊥) → one_letter m ≡ 0
    other ∅_kind h d = refl
    other ε_kind h d = refl
    other letter_kind h d = absurd (d h)
    other (sign_kind s) h d = refl
    other star_kind h d = refl
    other unknown_kind h d = refl

    go : Dec (k ≡ Kind.letter) → one_letter (meaning k) ≡ cond (eqb k Kind.letter) 1 0
    go (yes e) = rw (meaning_is letter_kind k e, eq-eqb k Kind.letter e)
    go (no d) = rw (other (meaning k) (numbered k) d, ne_eqb k Kind.letter d)

-- What the rows name, row by row.
named_sum : (t : Table) (g : ℕ → ℕ) (n : ℕ) → sum_over g (named t n) ≡ sum_below n (λ i. sum_over g (row_children (row t i)))
unfolding named sum_over sum_below
named_sum t g zero = refl
named_sum t g (suc n) = over_append g (named t n) (row_children (row t n)) ∙ ap (λ (s : ℕ). s + sum_over g (row_children (row t n))) (named_sum t g n)

-- ---- Letters in range

-- 01: letters are "1 to 255".
abbrev pub Lettered : Expression → Type 0
Lettered e = (a : ℕ) → Memᴰ a (letters e) → (1 ≤ a) × (a ≤ last_letter)

node_lettered : (m : Meaning) (l r : ℕ) (ts : List Expression) → fields_fit m l r ≡ true → ((j : ℕ) → Lettered (get_or ts j ∅)) → Lettered (node m l r ts)
unfolding letters node fields_fit
node_lettered ∅_kind l r ts e h a m = absurd (Memᴰ.not-nil m)
node_lettered ε_kind l r ts e h a m = absurd (Memᴰ.not-nil m)
node_lettered letter_kind l r ts e h a m = go (leb 1 l) (leb l last_letter) refl refl e
  where
    go : (b d : Bool) → leb 1 l ≡ b → leb l last_letter ≡ d → (b && d && eqb r 0) ≡ true → (1 ≤ a) × (a ≤ last_letter)
    go true true p q z = subst (λ (k : ℕ). (1 ≤ k) × (k ≤ last_letter)) (sym (Memᴰ.eq_of_singleton m)) (leb-true 1 l p, leb-true l last_letter q)
    go true false p q z = absurd (false≢true z)
    go false d p q z = absurd (false≢true z)
node_lettered (sign_kind s) l r ts e h a m = ⊎_elim (h l a) (h r a) (Memᴰ.append_cases (letters (get_or ts l ∅)) m)
node_lettered star_kind l r ts e h a m = h l a m
node_lettered unknown_kind l r ts e h a m = absurd (Memᴰ.not-nil m)

-- ---- The naming

module _ {t : Table} (good : WellFormed t) where
  -- What the first n rows name is smaller than the last of them.
  named_smaller : (n : ℕ) → n ≤ size t → (c : ℕ) → Memᴰ c (named t n) → c < pred n
  unfolding named
  named_smaller zero h c m = absurd (Memᴰ.not-nil m)
  named_smaller (suc n) h c m =
      ⊎_elim (λ k. let l = named_smaller n (le_trans (omega arith) h) c k in omega arith) (λ k. (good.faultless n h).smaller c k)
      (Memᴰ.append_cases (named t n) m)

  -- 01: "the last is the root".
  pub tree_last : tree t ≡ tree_at t (pred (size t))
  unfolding tree
  tree_last = trees_below t (size t) (pred (size t)) (let z = good.nonempty in omega arith)

  -- ---- A count over the tree

  -- A count of trees that adds up over a row's children, with a weight of the row's own.
  module _ (count : Expression → ℕ) (weight : Meaning → ℕ)
      (adds : (m : Meaning) (l r : ℕ) (ts : List Expression) → count (node m l r ts) ≡ weight m + sum_over (λ c. count (get_or ts c ∅)) (children m l r)) where
    row_adds : (i : ℕ) → i < size t → count (tree_at t i) ≡ weight (meaning (row t i).kind) + sum_over (λ c. count (tree_at t c)) (row_children (row t i))
    unfolding tree_at row_tree row_children
    row_adds i h =
        let w = row t i in
        adds (meaning w.kind) w.left w.right (trees t i)
        ∙ ap (λ (s : ℕ). weight (meaning w.kind) + s)
        (over_cong (row_children w) (λ c m. ap count (trees_below t i c ((good.faultless i h).smaller c m))))

    -- Every entry but the last is named once, so what the rows name is what the rows are, but for the last.
    pub tree_count : count (tree t) ≡ sum_below (size t) (λ i. weight (meaning (row t i).kind))
    tree_count = ap count tree_last ∙ omega (arith, sum_last (size t) g good.nonempty, rows)
      where
        g : ℕ → ℕ
        g i = count (tree_at t i)

        of_rows : ℕ → ℕ
        of_rows i = weight (meaning (row t i).kind)

        rows : sum_below (size t) g ≡ sum_below (size t) of_rows + sum_below (pred (size t)) g
        rows =
            sum_cong (size t) row_adds ∙ sum_add (size t) of_rows (λ i. sum_over g (row_children (row t i)))
            ∙ ap (λ (s : ℕ). sum_below (size t) of_rows + s)
            (sym (named_sum t g (size t)) ∙ over_once (pred (size t)) g (named t (size t)) (named_smaller (size t) (le_refl (size t))) good.once)

  -- The letter's n.
  pub tree_entries : entries (tree t) ≡ size t
  unfolding entries node children sum_over
  tree_entries = tree_count entries (λ _. 1) adds ∙ sum_ones (size t)
    where
      adds : (m : Meaning) (l r : ℕ) (ts : List Expression) → entries (node m l r ts) ≡ 1 + sum_over (λ c. entries (get_or ts c ∅)) (children m l r)
      adds ∅_kind l r ts = refl
      adds ε_kind l r ts = refl
      adds letter_kind l r ts = refl
      adds (sign_kind s) l r ts = omega arith
      adds star_kind l r ts = omega arith
      adds unknown_kind l r ts = refl

  -- The letter's m, "letters counted with repeats": the entries of kind `letter`.
  pub tree_letters : length (letters (tree t)) ≡ count_below (size t) (λ i. eqb (row t i).kind Kind.letter)
  tree_letters =
      tree_count (λ e. length (letters e)) one_letter letters_add ∙ sum_cong (size t) (λ i l. of_kind (row t i).kind)
      ∙ sum_count (size t) (λ i. eqb (row t i).kind Kind.letter)

  pub tree_lettered : Lettered (tree t)
  unfolding tree row_tree letters
  tree_lettered =
      trees_each Lettered t (size t) (λ a m. absurd (Memᴰ.not-nil m))
      (λ i l ts h. let w = row t i in node_lettered (meaning w.kind) w.left w.right ts (good.faultless i l).fits h) (pred (size t))
