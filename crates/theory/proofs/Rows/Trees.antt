-- The rows of an expression make a table whose trees are the expression's parts, its own tree last.
use Prim.Native.Nat.{ℕ, ◌+◌, pred, ◌<◌}
use native.Mathlib.Omega.{arith}
use mathlib.Core.Path.{◌≡◌, refl, ◌∙◌}
use mathlib.Core.List.{List, [], ◌∷◌, ◌++◌, foldl, append_assoc, foldl-append}
use lib.ListN.{length, length-append, length-map, get_or, get_or-append}
use lib.Seq.{get_or_at, get_or-append-add}
use Rattle.theory.specs.Expression.{Expression, pair, ∅, ε, letter, binary, star, entries, parts}
use Rattle.theory.specs.Table.{Row, columns, row_tree, trees, tree, size}
use Rattle.theory.specs.Grammar.{rows}
use Rattle.theory.proofs.Meaning.{sign_meaning}
use Rattle.theory.proofs.Rows.Along.{along}

pub rows_length : (base : ℕ) (e : Expression) → length (rows base e) ≡ entries e
unfolding rows
rows_length base ∅ = refl
rows_length base ε = refl
rows_length base (letter a) = refl
rows_length base (binary s x y) = simp length-append (omega (arith, rows_length base x, rows_length (base + entries x) y))
rows_length base (star x) = simp length-append (omega (arith, rows_length base x))

pub parts_length : (e : Expression) → length (parts e) ≡ entries e
unfolding parts entries
parts_length ∅ = refl
parts_length ε = refl
parts_length (letter a) = refl
parts_length (binary s x y) = simp length-append (omega (arith, parts_length x, parts_length y))
parts_length (star x) = simp length-append (omega (arith, parts_length x))

pub entries_positive : (e : Expression) → 0 < entries e
unfolding entries
entries_positive ∅ = omega arith
entries_positive ε = omega arith
entries_positive (letter a) = omega arith
entries_positive (binary s x y) = omega arith
entries_positive (star x) = omega arith

parts_last : (e : Expression) → get_or (parts e) (pred (entries e)) ∅ ≡ e
unfolding parts entries
parts_last ∅ = refl
parts_last ε = refl
parts_last (letter a) = refl
parts_last (binary s x y) = get_or_at (parts x ++ parts y) (binary s x y) [] ∅ (entries x + entries y) (simp (length-append, parts_length))
parts_last (star x) = get_or_at (parts x) (star x) [] ∅ (entries x) (parts_length x)

-- A row's tree put after the trees before it.
unfoldable grow : List Expression → Row → List Expression
unfolding row_tree
grow ts w = ts ++ row_tree w ts ∷ []

trees_along : (ws : List Row) → trees (columns ws) (length ws) ≡ foldl grow [] ws
unfolding trees grow
trees_along ws = along grow (trees (columns ws)) ws (λ n. refl)

-- The tree of an expression whose parts stand after ts, and it stays where more trees follow.
own_tree : (ts : List Expression) (e : Expression) → get_or (ts ++ parts e) (length ts + pred (entries e)) ∅ ≡ e
own_tree ts e = rw get_or-append-add (parts_last e)

own_tree_stays : (ts : List Expression) (e : Expression) (us : List Expression)
    → get_or (ts ++ parts e ++ us) (length ts + pred (entries e)) ∅ ≡ e
own_tree_stays ts e us =
    let positive = entries_positive e in
    let inside : length ts + pred (entries e) < length (ts ++ parts e) = simp (length-append, parts_length) (omega arith) in
    rw get_or-append (own_tree ts e)

grow_rows : (e : Expression) (ts : List Expression) → foldl grow ts (rows (length ts) e) ≡ ts ++ parts e
unfolding rows grow parts pair
grow_rows ∅ ts = refl
grow_rows ε ts = refl
grow_rows (letter a) ts = refl
grow_rows (binary s x y) ts =
    let here : length (ts ++ parts x) ≡ length ts + entries x = simp (length-append, parts_length) in
    let left = own_tree_stays ts x (parts y) in
    let right = own_tree (ts ++ parts x) y in
    rw (foldl-append, foldl-append, grow_rows x ts, ← here, grow_rows y (ts ++ parts x), sign_meaning, left, right) (simp append_assoc)
grow_rows (star x) ts = rw (foldl-append, grow_rows x ts, own_tree) (simp append_assoc)

-- The trees of the rows are the parts.
pub rows_trees : (e : Expression) → trees (columns (rows 0 e)) (entries e) ≡ parts e
rows_trees e = rw rows_length at (trees_along (rows 0 e) ∙ grow_rows e [])

pub rows_size : (e : Expression) → size (columns (rows 0 e)) ≡ entries e
rows_size e = rw (length-map, rows_length)

pub rows_tree : (e : Expression) → tree (columns (rows 0 e)) ≡ e
unfolding tree
rows_tree e = rw (rows_size, rows_trees) (parts_last e)
