-- Rows laid into columns: run after run, from the front on, and into columns of zeros.
use Prim.Native.Nat.{ℕ, zero, suc, ◌+◌, ◌-◌, ◌≤◌}
use native.Mathlib.Nat.{add-zero, add-suc, suc-add, zero-add, zero-sub}
use native.Mathlib.Numerals.{unary_clauses}
use mathlib.Core.Path.{◌≡◌, sym, ap, ◌∙◌}
use mathlib.Core.List.{List, [], ◌∷◌, ◌++◌, map, map-append}
use lib.ListN.{length, set, drop, length-map, length-replicate}
use lib.Seq.{sets, sets-eq}
use Rattle.theory.specs.Column.{zeros, filled}
use Rattle.theory.specs.Table.{Table, Row}
use Rattle.reader.specs.Found.{laid}

sets_append : (l : List ℕ) (i : ℕ) (xs ys : List ℕ) → sets l i (xs ++ ys) ≡ sets (sets l i xs) (i + length xs) ys
sets_append l i [] ys = rw add-zero
sets_append l i (x ∷ xs) ys = rw (add-suc, ← suc-add) (sets_append (set l i x) (suc i) xs ys)

column_append : (f : Row → ℕ) (l : List ℕ) (i : ℕ) (vs ws : List Row) → sets l i (map f (vs ++ ws)) ≡ sets (sets l i (map f vs)) (i + length vs) (map f ws)
column_append f l i vs ws = rw (map-append, ← length-map vs f) (sets_append l i (map f vs) (map f ws))

pub laid_append : (base : ℕ) (vs ws : List Row) (t : Table) → laid base (vs ++ ws) t ≡ laid (base + length vs) ws (laid base vs t)
laid_append base vs ws t =
    cc (
      column_append (λ w. w.kind) t.kind base vs ws,
      column_append (λ w. w.left) t.left base vs ws,
      column_append (λ w. w.right) t.right base vs ws,
    )

drop_zeros : (k n : ℕ) → drop k (zeros n) ≡ zeros (n - k)
drop_zeros zero n = simp unary_clauses
drop_zeros (suc k) zero = ap zeros (sym (zero-sub (suc k)))
drop_zeros (suc k) (suc n) = simp unary_clauses (drop_zeros k n)

pub laid_zeros : (n : ℕ) (xs : List ℕ) → length xs ≤ n → sets (zeros n) 0 xs ≡ filled n xs
laid_zeros n xs l = sets-eq xs (zeros n) 0 (rw (zero-add, length-replicate) l) ∙ rw (zero-add, drop_zeros)
