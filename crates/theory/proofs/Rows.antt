-- The table that a text's expression is read into: its tree is the expression, its length the expression's entries, which fit the
-- room of the reading, and the builder refuses none of it. Leans on `Grammar` for what a text that is read makes.
use Prim.Native.Nat.{ℕ, zero, suc, ◌+◌, pred, ◌≤◌, ◌<◌}
use native.Mathlib.Nat.{zero-add, add-zero, add-suc, suc-add}
use native.Mathlib.Omega.{arith}
use mathlib.Core.Path.{◌≡◌, refl}
use lib.ListN.{length-map}
use borrow.Author.Tests.{eq-eqb, ne_eqb, le-ltb}
use Rattle.theory.specs.Expression.{Expression, entries}
use Rattle.theory.specs.Limit.{most_entries}
use Rattle.theory.specs.Refusal.{success}
use Rattle.theory.specs.Table.{row, columns, entry_fault, naming_fault, first_fault, table_refusal}
use Rattle.theory.specs.Grammar.{Text, rows, Writable, read, Reads, whole}
use Rattle.theory.proofs.Grammar.Count.{made_written}
use Trees.{rows_length, rows_size, entries_positive}
use Naming.{rows_named_once}
use Faults.{rows_faultless}
pub mod Along
pub mod Trees
pub mod Naming
pub mod Faults
pub use Trees.{rows_tree, rows_length}

pub read_fits : {room : ℕ} {t : Text} {e : Expression} → Reads room t (read e) → entries e ≤ room
read_fits (whole e w x p) = rw (made_written e w) at (rw (← x) at p.fits)

no_fault : (fault : ℕ → ℕ) (i k : ℕ) → ((j : ℕ) → j < k → fault (i + j) ≡ 0) → first_fault fault i k ≡ success
unfolding first_fault
no_fault fault i zero h = refl
no_fault fault i (suc k) h =
    let here : fault i ≡ 0 = rw add-zero at (h 0 (omega arith)) in
    rw (here, first_fault) (no_fault fault (suc i) k (λ j l. rw (suc-add, ← add-suc) (h (suc j) (omega arith))))

named_faultless : (e : Expression) (i : ℕ) → i < pred (entries e) → naming_fault (columns (rows 0 e)) i ≡ 0
unfolding naming_fault
named_faultless e i l = rw (rows_size, rows_named_once e i l)

-- 01: "A text that is read gives a table that the builder never refuses with 1 to 8."
pub rows_refused_never : (e : Expression) → Writable e → entries e ≤ most_entries → table_refusal (columns (rows 0 e)) ≡ success
unfolding table_refusal
rows_refused_never e w l =
    let n = entries e in
    let t = columns (rows 0 e) in
    let equal = eq-eqb n n refl in
    let positive = entries_positive e in
    let not_empty = ne_eqb n 0 (λ z. omega arith) in
    let not_long = le-ltb most_entries n l in
    let faults = no_fault (λ i. entry_fault n i (row t i)) 0 n (λ j h. rw zero-add (rows_faultless e w j h)) in
    let naming = no_fault (naming_fault t) 0 (pred n) (λ j h. rw zero-add (named_faultless e j h)) in
    rw (length-map, length-map, length-map, rows_length, equal, not_empty, not_long, faults, naming)
