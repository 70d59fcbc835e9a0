-- 01, "The expression table": what its rows say, the tree of each row, and refusals 1 to 8 with their places.
use Rattle.std.specs.Prelude.{ℕ, zero, suc, pred, ◌≤◌, ◌<◌, ◌≡◌, Bool, true, false, cond, not, ◌&&◌, length, get_or, eqb, leb, ltb}
use mathlib.Core.List.{List, [], ◌∷◌, ◌++◌, map, Memᴰ}
use Rattle.theory.specs.Kind
use Rattle.theory.specs.Expression.{Expression, pair, Sign, ∅, ε, letter, star, union, concatenation, shuffle}
use Rattle.theory.specs.Limit.{most_entries, last_letter}
use Rattle.theory.specs.Refusal.{Refusal, refusal, success, or_else, columns_differ, table_empty, table_long, kind_unknown, field_outside, child_not_smaller, empty_language_inside, not_named_once}

-- 01: "Three columns of equal length: kind (8 bits), left (16 bits), right (16 bits)."
pub record Table : Type 0 where
  pub kind : List ℕ
  pub left : List ℕ
  pub right : List ℕ

abbrev pub table : List ℕ → List ℕ → List ℕ → Table
table k l r = record { kind = k; left = l; right = r }

pub record Row : Type 0 where
  pub kind : ℕ
  pub left : ℕ
  pub right : ℕ

-- 01: "Entry numbers start at 0."
abbrev pub row : Table → ℕ → Row
row t i = record { kind = get_or t.kind i 0; left = get_or t.left i 0; right = get_or t.right i 0 }

-- Rows as columns.
abbrev pub columns : List Row → Table
columns ws = record { kind = map (λ (w : Row). w.kind) ws; left = map (λ (w : Row). w.left) ws; right = map (λ (w : Row). w.right) ws }

-- 01's table of kinds: the column "meaning".
pub data Meaning : Type 0 where
  ∅_kind ε_kind letter_kind : Meaning
  sign_kind : Sign → Meaning
  star_kind unknown_kind : Meaning

-- The same column from kind 0 on.
abbrev pub kinds : List Meaning
kinds =
    ∅_kind ∷ ε_kind ∷ letter_kind ∷ sign_kind union ∷ sign_kind concatenation ∷ sign_kind shuffle ∷ star_kind ∷ []

unfoldable pub meaning : ℕ → Meaning
meaning k = get_or kinds k unknown_kind

-- The kind of a sign's entry: "3, 4, 5 | union, concatenation, shuffle".
unfoldable pub kind_of_sign : Sign → ℕ
kind_of_sign union = Kind.union
kind_of_sign concatenation = Kind.concatenation
kind_of_sign shuffle = Kind.shuffle

abbrev pub entry : ℕ → ℕ → ℕ → Row
entry k l r = record { kind = k; left = l; right = r }

-- 01's table of kinds as what a row may be; "A child's number is smaller than its parent's", here i.
pub data Sound (i : ℕ) (w : Row) : Type 0 where
  of_∅ : w ≡ entry Kind.empty_language 0 0 → Sound i w
  of_ε : w ≡ entry Kind.empty_word 0 0 → Sound i w
  of_letter : (a : ℕ) → 1 ≤ a → a ≤ last_letter → w ≡ entry Kind.letter a 0 → Sound i w
  of_sign : (s : Sign) (l r : ℕ) → l < i → r < i → w ≡ entry (kind_of_sign s) l r → Sound i w
  of_star : (l : ℕ) → l < i → w ≡ entry Kind.star l 0 → Sound i w

-- The tree of a row over the trees of the rows before it.
unfoldable pub node : Meaning → ℕ → ℕ → List Expression → Expression
unfolding pair
node ∅_kind l r ts = ∅
node ε_kind l r ts = ε
node letter_kind l r ts = letter l
node (sign_kind s) l r ts = pair s (get_or ts l ∅) (get_or ts r ∅)
node star_kind l r ts = star (get_or ts l ∅)
node unknown_kind l r ts = ∅

unfoldable pub row_tree : Row → List Expression → Expression
unfolding meaning node
row_tree w ts = node (meaning w.kind) w.left w.right ts

-- The trees of the first n rows.
unfoldable pub trees : Table → ℕ → List Expression
unfolding row_tree
trees t zero = []
trees t (suc n) = let ts = trees t n in ts ++ (row_tree (row t n) ts ∷ [])

-- The tree of row i.
unfoldable pub tree_at : Table → ℕ → Expression
unfolding row_tree trees
tree_at t i = row_tree (row t i) (trees t i)

-- 01: "The table is the whole of the columns lent".
abbrev pub size : Table → ℕ
size t = length t.kind

-- 01: "the last is the root".
unfoldable pub tree : Table → Expression
unfolding trees
tree t = get_or (trees t (size t)) (pred (size t)) ∅

-- The columns "left" and "right" of 01's table of kinds, where they hold no child.
unfoldable pub fields_fit : Meaning → ℕ → ℕ → Bool
fields_fit ∅_kind l r = eqb l 0 && eqb r 0
fields_fit ε_kind l r = eqb l 0 && eqb r 0
fields_fit letter_kind l r = leb 1 l && leb l last_letter && eqb r 0
fields_fit (sign_kind s) l r = true
fields_fit star_kind l r = eqb r 0
fields_fit unknown_kind l r = true

-- The same columns where they hold a child.
unfoldable pub children : Meaning → ℕ → ℕ → List ℕ
children ∅_kind l r = []
children ε_kind l r = []
children letter_kind l r = []
children (sign_kind s) l r = l ∷ r ∷ []
children star_kind l r = l ∷ []
children unknown_kind l r = []

unfoldable pub row_children : Row → List ℕ
unfolding meaning children
row_children w = children (meaning w.kind) w.left w.right

-- "A child's number is smaller than its parent's", here i.
unfoldable pub all_smaller : ℕ → List ℕ → Bool
all_smaller i [] = true
all_smaller i (c ∷ cs) = ltb c i && all_smaller i cs

-- 01: "entries from 0 upward, each checked for 4, 5, 6, 7": entry i of a table of n; 0 where nothing is wrong with it.
unfoldable pub entry_fault : ℕ → ℕ → Row → ℕ
unfolding meaning fields_fit row_children all_smaller
entry_fault n i w =
    cond (ltb Kind.last w.kind) kind_unknown
    (cond (not (fields_fit (meaning w.kind) w.left w.right)) field_outside
    (cond (not (all_smaller i (row_children w))) child_not_smaller
    (cond (eqb w.kind Kind.empty_language && ltb 1 n) empty_language_inside 0)))

-- How often a number stands in a list.
unfoldable pub times : ℕ → List ℕ → ℕ
times i [] = 0
times i (c ∷ cs) = cond (eqb c i) (suc (times i cs)) (times i cs)

-- All children that the first n rows name.
unfoldable pub named : Table → ℕ → List ℕ
unfolding row_children
named t zero = []
named t (suc n) = named t n ++ row_children (row t n)

-- 01: "an entry other than the last not named exactly once".
unfoldable pub naming_fault : Table → ℕ → ℕ
unfolding times named
naming_fault t i = cond (eqb (times i (named t (size t))) 1) 0 not_named_once

-- The first of the entries from i on, k of them, at which `fault` is not 0.
unfoldable pub first_fault : (ℕ → ℕ) → ℕ → ℕ → Refusal
first_fault fault i zero = success
first_fault fault i (suc k) =
    elim (eqb (fault i) 0) [ true ↦ first_fault fault (suc i) k | false ↦ refusal (fault i) i ]

-- 01: "Builder: 1, 2, 3, then entries from 0 upward, each checked for 4, 5, 6, 7; then 8".
unfoldable pub table_refusal : Table → Refusal
unfolding first_fault entry_fault naming_fault
table_refusal t =
    cond (not (eqb (length t.left) (size t) && eqb (length t.right) (size t))) (refusal columns_differ 0)
    (cond (eqb (size t) 0) (refusal table_empty 0)
    (cond (ltb most_entries (size t)) (refusal table_long 0)
    (or_else (first_fault (λ i. entry_fault (size t) i (row t i)) 0 (size t)) (first_fault (naming_fault t) 0 (pred (size t))))))

-- ---- A table without refusal

-- 01: "Three columns of equal length".
abbrev pub SameLengths : Table → Type 0
SameLengths t = (length t.left ≡ size t) × (length t.right ≡ size t)

-- Entry i of a table of n, where none of 4 to 7 is due. 01: "A child's number is smaller than its parent's"; "Kind 0 may stand only as the
-- single entry of a one-entry table".
pub record Faultless (n i : ℕ) (w : Row) : Type 0 where
  pub known : w.kind ≤ Kind.last
  pub fits : fields_fit (meaning w.kind) w.left w.right ≡ true
  pub smaller : (c : ℕ) → Memᴰ c (row_children w) → c < i
  pub alone : w.kind ≡ Kind.empty_language → n ≤ 1

-- 01: "A table has 1 to 512 entries"; "Every entry but the last is named as a child exactly once".
pub record WellFormed (t : Table) : Type 0 where
  pub lengths : SameLengths t
  pub nonempty : 0 < size t
  pub short : size t ≤ most_entries
  pub faultless : (i : ℕ) → i < size t → Faultless (size t) i (row t i)
  pub once : (i : ℕ) → i < pred (size t) → times i (named t (size t)) ≡ 1
