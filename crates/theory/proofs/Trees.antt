-- The trees of a table's rows: how many, which, that they depend on the rows so far alone, and what all of them have.
use Prim.Native.Nat.{ℕ, zero, suc, ◌<◌}
use native.Mathlib.Nat.{le_refl, le_of_suc-le-suc, not-suc-le-zero, eq-or-lt_of_le, le_step, le_trans}
use native.Mathlib.Decide.{le_ind}
use native.Mathlib.Omega.{arith}
use mathlib.Core.Path.{◌≡◌, refl, sym, ap, ap₂, ◌∙◌, subst}
use mathlib.Core.Logic.{◌⊎◌, inl, inr}
use mathlib.Core.List.Memᴰ
use mathlib.Core.List.{List, [], ◌∷◌, ◌++◌, Memᴰ}
use lib.ListN.{length, get_or, length-append, get_or-append}
use lib.Seq.{get_or_at}
use Rattle.theory.specs.Expression.{Expression, ∅}
use Rattle.theory.specs.Table.{Table, Row, row, row_tree, trees, tree_at}

pub trees_length : (t : Table) (n : ℕ) → length (trees t n) ≡ n
unfolding trees
trees_length t zero = refl
trees_length t (suc n) = length-append (trees t n) _ ∙ (let e = trees_length t n in omega arith)

-- The tree of a row does not change when rows come after it.
pub trees_below : (t : Table) (n i : ℕ) → i < n → get_or (trees t n) i ∅ ≡ tree_at t i
unfolding trees tree_at
trees_below t n i l =
    le_ind (λ (m : ℕ). get_or (trees t m) i ∅ ≡ tree_at t i) last
    (λ m im e. get_or-append (trees t m) (row_tree (row t m) (trees t m) ∷ []) ∅ i (subst (λ (k : ℕ). i < k) (sym (trees_length t m)) im) ∙ e) n l
  where
    last : get_or (trees t (suc i)) i ∅ ≡ row_tree (row t i) (trees t i)
    last = get_or_at (trees t i) (row_tree (row t i) (trees t i)) [] ∅ i (trees_length t i)

-- Only the rows so far count.
pub trees_kept : (t t' : Table) (n : ℕ) → ((i : ℕ) → i < n → row t' i ≡ row t i) → trees t' n ≡ trees t n
unfolding trees
trees_kept t t' zero h = refl
trees_kept t t' (suc n) h =
    let ih = trees_kept t t' n (λ i l. h i (le_step l)) in
    ap₂ (λ (ts : List Expression) (w : Row). ts ++ (row_tree w ts ∷ [])) ih (h n (le_refl (suc n)))

pub tree_kept : (t t' : Table) (i : ℕ) → ((j : ℕ) → j < suc i → row t' j ≡ row t j) → tree_at t' i ≡ tree_at t i
unfolding tree_at
tree_kept t t' i h = ap₂ row_tree (h i (le_refl (suc i))) (trees_kept t t' i (λ j l. h j (le_step l)))

pub trees_of : (t : Table) (n : ℕ) {z : Expression} → Memᴰ z (trees t n) → (i : ℕ) × (i < n) × (z ≡ tree_at t i)
unfolding trees tree_at
trees_of t zero m = absurd (Memᴰ.not-nil m)
trees_of t (suc n) {z} m = go (λ k. trees_of t n k) (Memᴰ.append_cases (trees t n) m)
  where
    go : (Memᴰ z (trees t n) → (i : ℕ) × (i < n) × (z ≡ row_tree (row t i) (trees t i)))
        → Memᴰ z (trees t n) ⊎ Memᴰ z (row_tree (row t n) (trees t n) ∷ [])
        → (i : ℕ) × (i < suc n) × (z ≡ row_tree (row t i) (trees t i))
    go ih (inl k) = let r = ih k in (r.0, le_step r.1, r.2)
    go ih (inr k) = (n, le_refl (suc n), Memᴰ.eq_of_singleton k)

pub to_trees : (t : Table) (n i : ℕ) → i < n → Memᴰ (tree_at t i) (trees t n)
unfolding trees tree_at
to_trees t zero i l = absurd (not-suc-le-zero l)
to_trees t (suc n) i l = go (eq-or-lt_of_le (le_of_suc-le-suc l)) (λ m. to_trees t n i m)
  where
    go : (i ≡ n) ⊎ (i < n) → (i < n → Memᴰ (row_tree (row t i) (trees t i)) (trees t n))
        → Memᴰ (row_tree (row t i) (trees t i)) (trees t n ++ (row_tree (row t n) (trees t n) ∷ []))
    go (inl e) ih = Memᴰ.append_right (trees t n) (Memᴰ.head (ap (λ (k : ℕ). row_tree (row t k) (trees t k)) e))
    go (inr m) ih = Memᴰ.append_left _ (ih m)

-- What the empty language has, and each row's tree whatever the trees before it that have it, all trees have.
module _ (P : Expression → Type 0) where
  each_more : (ts : List Expression) (x : Expression) → ((j : ℕ) → P (get_or ts j ∅)) → P x → (j : ℕ) → P (get_or (ts ++ (x ∷ [])) j ∅)
  each_more [] x h p zero = p
  each_more [] x h p (suc j) = h j
  each_more (y ∷ ys) x h p zero = h zero
  each_more (y ∷ ys) x h p (suc j) = each_more ys x (λ k. h (suc k)) p j

  pub trees_each : (t : Table) (n : ℕ) → P ∅
      → ((i : ℕ) → i < n → (ts : List Expression) → ((j : ℕ) → P (get_or ts j ∅)) → P (row_tree (row t i) ts))
      → (j : ℕ) → P (get_or (trees t n) j ∅)
  unfolding trees
  trees_each t zero e s j = e
  trees_each t (suc n) e s j =
      let before = trees_each t n e (λ i l. s i (le_trans l (omega arith))) in
      each_more (trees t n) (row_tree (row t n) (trees t n)) before (s n (le_refl (suc n)) (trees t n) before) j
