-- Refusals 1 to 3 of a table, and what is left where they are not given: 01's order, one step a law.
use Prim.Native.Nat.{◌≤◌, ◌<◌, pred}
use mathlib.Core.Path.{◌≡◌, refl}
use mathlib.Core.Bool.{Bool, true, false, ◌&&◌}
use lib.ListN.{length}
use lib.Dec.{eqb}
use borrow.Author.Tests.{eq-eqb, ne_eqb, eqb-true, lt-ltb, le-ltb}
use Rattle.theory.specs.Limit.{most_entries}
use Rattle.theory.specs.Refusal.{Refusal, refusal, or_else, columns_differ, table_empty, table_long}
use Rattle.theory.specs.Table.{Table, row, size, entry_fault, naming_fault, first_fault, table_refusal, SameLengths}

lengths_agree : (t : Table) → SameLengths t → (eqb (length t.left) (size t) && eqb (length t.right) (size t)) ≡ true
lengths_agree t e = rw (eq-eqb (length t.left) (size t) e.0, eq-eqb (length t.right) (size t) e.1)

lengths_differ : (t : Table) → (SameLengths t → ⊥) → (eqb (length t.left) (size t) && eqb (length t.right) (size t)) ≡ false
lengths_differ t n = go (eqb (length t.left) (size t)) (eqb (length t.right) (size t)) refl refl
  where
    go : (b d : Bool) → eqb (length t.left) (size t) ≡ b → eqb (length t.right) (size t) ≡ d → (b && d) ≡ false
    go true true p q = absurd (n (eqb-true (length t.left) (size t) p, eqb-true (length t.right) (size t) q))
    go true false p q = refl
    go false d p q = refl

-- Refusals 4 to 8 of a table.
abbrev pub later_refusal : Table → Refusal
later_refusal t =
    or_else (first_fault (λ i. entry_fault (size t) i (row t i)) 0 (size t)) (first_fault (naming_fault t) 0 (pred (size t)))

pub refused_differ : (t : Table) → (SameLengths t → ⊥) → table_refusal t ≡ refusal columns_differ 0
unfolding table_refusal
refused_differ t n = rw (lengths_differ t n)

pub refused_empty : (t : Table) → SameLengths t → size t ≡ 0 → table_refusal t ≡ refusal table_empty 0
unfolding table_refusal
refused_empty t e z = rw (lengths_agree t e, eq-eqb (size t) 0 z)

pub refused_long : (t : Table) → SameLengths t → (size t ≡ 0 → ⊥) → most_entries < size t → table_refusal t ≡ refusal table_long 0
unfolding table_refusal
refused_long t e n l = rw (lengths_agree t e, ne_eqb (size t) 0 n, lt-ltb most_entries (size t) l)

pub refused_later : (t : Table) → SameLengths t → (size t ≡ 0 → ⊥) → size t ≤ most_entries → table_refusal t ≡ later_refusal t
unfolding table_refusal
refused_later t e n l = rw (lengths_agree t e, ne_eqb (size t) 0 n, le-ltb most_entries (size t) l)
