-- No row of an expression that can be written has a fault of its own.
use Prim.Native.Nat.{ℕ, zero, suc, ◌+◌, pred, ◌<◌}
use native.Mathlib.Nat.{zero-add, add-zero, add-suc, suc-add}
use native.Mathlib.Omega.{arith}
use mathlib.Core.Path.{◌≡◌, refl}
use mathlib.Core.List.{List, [], ◌∷◌, ◌++◌}
use lib.ListN.{length, length-append}
use lib.Dec.{T}
use borrow.Author.Tests.{lt-ltb, le-leb}
use Rattle.theory.specs.Kind
use Rattle.theory.specs.Limit.{last_letter}
use Rattle.theory.specs.Expression.{Expression, Sign, union, concatenation, shuffle, ∅, ε, letter, binary, star, entries}
use Rattle.theory.specs.Table.{Row, row, columns, entry, entry_fault, kind_of_sign}
use Rattle.theory.specs.Grammar.{rows, Inner, Writable, is_letter}
use Rattle.theory.proofs.Grammar.Bytes.{letter_bounds}
use Rattle.theory.proofs.Rows.Trees.{rows_length, entries_positive}

-- The rows, numbered from i on, have no fault in a table of n.
abbrev AllFaultless : ℕ → ℕ → List Row → Type 0
AllFaultless n i [] = Unit {0}
AllFaultless n i (w ∷ ws) = (entry_fault n i w ≡ 0) × AllFaultless n (suc i) ws

faultless_append : (n i : ℕ) (us ws : List Row) → AllFaultless n i us → AllFaultless n (i + length us) ws → AllFaultless n i (us ++ ws)
faultless_append n i [] ws f g = rw add-zero at g
faultless_append n i (u ∷ us) ws f g = (f.0, faultless_append n (suc i) us ws f.1 (rw (suc-add, ← add-suc) g))

faultless_at : (n j : ℕ) (ws : List Row) → AllFaultless n j ws → (i : ℕ) → i < length ws → entry_fault n (j + i) (row (columns ws) i) ≡ 0
faultless_at n j [] f i l = absurd (omega arith)
faultless_at n j (w ∷ ws) f zero l = rw add-zero f.0
faultless_at n j (w ∷ ws) f (suc i) l = rw (add-suc, ← suc-add) (faultless_at n (suc j) ws f.1 i (omega arith))

letter_row : (n i a : ℕ) → T (is_letter a) → entry_fault n i (entry Kind.letter a 0) ≡ 0
unfolding entry_fault
letter_row n i a h = let b = letter_bounds a h in rw (le-leb 1 a (omega arith), le-leb a last_letter (omega arith))

sign_row : (n i : ℕ) (s : Sign) (l r : ℕ) → l < i → r < i → entry_fault n i (entry (kind_of_sign s) l r) ≡ 0
unfolding entry_fault kind_of_sign
sign_row n i union l r h k = rw (lt-ltb l i h, lt-ltb r i k)
sign_row n i concatenation l r h k = rw (lt-ltb l i h, lt-ltb r i k)
sign_row n i shuffle l r h k = rw (lt-ltb l i h, lt-ltb r i k)

star_row : (n i l : ℕ) → l < i → entry_fault n i (entry Kind.star l 0) ≡ 0
unfolding entry_fault
star_row n i l h = rw (lt-ltb l i h)

faultless_rows : (n base : ℕ) (e : Expression) → Inner e → AllFaultless n base (rows base e)
unfolding rows entry_fault
faultless_rows n base ∅ i = absurd i
faultless_rows n base ε i = (refl, tt)
faultless_rows n base (letter a) i = (letter_row n base a i, tt)
faultless_rows n base (binary s x y) i =
    let before = rows base x ++ rows (base + entries x) y in
    let here : base + length before ≡ base + entries x + entries y = simp (length-append, rows_length) (omega arith) in
    let own = sign_row n (base + length before) s (base + pred (entries x)) (base + entries x + pred (entries y)) in
    let xs = faultless_rows n base x i.0 in
    let ys = faultless_rows n (base + entries x) y i.1 in
    let both = faultless_append n base (rows base x) (rows (base + entries x) y) xs (rw rows_length ys) in
    faultless_append n base before _ both (own (omega (arith, entries_positive x)) (omega (arith, entries_positive y)), tt)
faultless_rows n base (star x) i =
    let own = star_row n (base + entries x) (base + pred (entries x)) (omega (arith, entries_positive x)) in
    faultless_append n base (rows base x) _ (faultless_rows n base x i) (rw rows_length own, tt)

-- Neither has the one row of `0` alone.
writable_faultless : (e : Expression) → Writable e → AllFaultless (entries e) 0 (rows 0 e)
unfolding rows entries entry_fault
writable_faultless ∅ w = (refl, tt)
writable_faultless ε w = faultless_rows (entries ε) 0 ε w
writable_faultless (letter a) w = faultless_rows (entries (letter a)) 0 (letter a) w
writable_faultless (binary s x y) w = faultless_rows (entries (binary s x y)) 0 (binary s x y) w
writable_faultless (star x) w = faultless_rows (entries (star x)) 0 (star x) w

pub rows_faultless : (e : Expression) → Writable e → (i : ℕ) → i < entries e → entry_fault (entries e) i (row (columns (rows 0 e)) i) ≡ 0
rows_faultless e w i l = rw zero-add at (faultless_at (entries e) 0 (rows 0 e) (writable_faultless e w) i (rw rows_length l))
