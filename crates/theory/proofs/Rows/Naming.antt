-- In the rows of an expression each entry but the last is named exactly once.
use Prim.Native.Nat.{ℕ, zero, suc, ◌+◌, pred, ◌≤◌, ◌<◌}
use native.Mathlib.Nat.{zero-add, add-zero, add-suc, suc-add}
use native.Mathlib.Decide.{ℕ_discrete}
use native.Mathlib.Numerals.{add-one}
use native.Mathlib.Omega.{arith}
use mathlib.Core.Path.{◌≡◌, refl}
use mathlib.Core.List.{List, [], ◌∷◌, ◌++◌, foldl, append-nil, foldl-append}
use lib.ListN.{length}
use borrow.Author.Tests.{eq-eqb, ne_eqb}
use Rattle.theory.specs.Expression.{Expression, ∅, ε, letter, binary, star, entries}
use Rattle.theory.specs.Table.{Row, columns, row_children, named, times}
use Rattle.theory.specs.Grammar.{rows}
use Rattle.theory.proofs.Times.{times_append}
use Rattle.theory.proofs.Meaning.{sign_meaning}
use Rattle.theory.proofs.Rows.Along.{along}
use Rattle.theory.proofs.Rows.Trees.{rows_length}

-- ---- How often a number stands in a list

times_pair : (i l r : ℕ) → times i (l ∷ r ∷ []) ≡ times i (l ∷ []) + times i (r ∷ [])
times_pair i l r = times_append i (l ∷ []) (r ∷ [])

times_other : (i c : ℕ) → i < c → times i (c ∷ []) ≡ 0
unfolding times
times_other i c l = rw (ne_eqb c i (λ e. omega arith))

-- n numbers from base on.
unfoldable upward : ℕ → ℕ → List ℕ
upward base zero = []
upward base (suc n) = base ∷ upward (suc base) n

upward_add : (base m n : ℕ) → upward base (m + n) ≡ upward base m ++ upward (base + m) n
unfolding upward
upward_add base zero n = rw (zero-add, add-zero)
upward_add base (suc m) n = rw (suc-add, upward_add (suc base) m n, suc-add, add-suc)

times_upward_add : (i base m n : ℕ) → times i (upward base (m + n)) ≡ times i (upward base m) + times i (upward (base + m) n)
times_upward_add i base m n = rw (upward_add, times_append)

times_upward_suc : (i base n : ℕ) → times i (upward base (suc n)) ≡ times i (upward base n) + times i ((base + n) ∷ [])
unfolding upward
times_upward_suc i base n = rw add-one at (times_upward_add i base n 1)

upward_below : (i base n : ℕ) → i < base → times i (upward base n) ≡ 0
unfolding upward times
upward_below i base zero l = refl
upward_below i base (suc n) l = rw (ne_eqb base i (λ e. omega arith)) (upward_below i (suc base) n (omega arith))

upward_once : (i base n : ℕ) → base ≤ i → i < base + n → times i (upward base n) ≡ 1
unfolding upward times
upward_once i base zero l h = absurd (omega arith)
upward_once i base (suc n) l h = go (ℕ_discrete base i) (λ above. upward_once i (suc base) n above (omega arith))
  where
    go : Dec (base ≡ i) → (base < i → times i (upward (suc base) n) ≡ 1) → times i (upward base (suc n)) ≡ 1
    go (yes e) later = rw (eq-eqb base i e, upward_below i (suc base) n (omega arith))
    go (no ne) later = rw (ne_eqb base i ne) (later (omega arith))

-- ---- The children that rows name

unfoldable add_children : List ℕ → Row → List ℕ
unfolding row_children
add_children cs w = cs ++ row_children w

named_along : (ws : List Row) → named (columns ws) (length ws) ≡ foldl add_children [] ws
unfolding named add_children
named_along ws = along add_children (named (columns ws)) ws (λ n. refl)

-- With its own entry, the rows of an expression name each of their entries once, and what was named before stays.
rows_name : (i base : ℕ) (e : Expression) (cs : List ℕ)
    → times i (foldl add_children cs (rows base e)) + times i ((base + pred (entries e)) ∷ []) ≡ times i cs + times i (upward base (entries e))
unfolding rows add_children upward
rows_name i base ∅ cs = rw (append-nil, add-zero)
rows_name i base ε cs = rw (append-nil, add-zero)
rows_name i base (letter a) cs = rw (append-nil, add-zero)
rows_name i base (binary s x y) cs =
    let l = base + pred (entries x) in
    let r = base + entries x + pred (entries y) in
    let xs = foldl add_children cs (rows base x) in
    let ys = foldl add_children xs (rows (base + entries x) y) in
    rw (foldl-append, foldl-append, sign_meaning)
    (omega (
      arith,
      rows_name i base x cs,
      rows_name i (base + entries x) y xs,
      times_append i ys (l ∷ r ∷ []),
      times_pair i l r,
      times_upward_add i base (entries x) (entries y),
      times_upward_suc i base (entries x + entries y),
    ))
rows_name i base (star x) cs =
    let xs = foldl add_children cs (rows base x) in
    rw foldl-append
    (omega (arith, rows_name i base x cs, times_append i xs ((base + pred (entries x)) ∷ []), times_upward_suc i base (entries x)))

named_rows : (e : Expression) → named (columns (rows 0 e)) (entries e) ≡ foldl add_children [] (rows 0 e)
named_rows e = rw rows_length at (named_along (rows 0 e))

pub rows_named_once : (e : Expression) (i : ℕ) → i < pred (entries e) → times i (named (columns (rows 0 e)) (entries e)) ≡ 1
unfolding times
rows_named_once e i l =
    let own = times_other i (0 + pred (entries e)) (omega arith) in
    let all = upward_once i 0 (entries e) (omega arith) (omega arith) in
    rw named_rows (omega (arith, rows_name i 0 e []))
