-- Where a refusal can stand: the reader's at a byte of a text that is not too long or at its end, the builder's at an entry of a table that is not
-- too long, and all others at 0.
use Prim.Native.Nat.{ℕ, zero, suc, ◌+◌, ◌-◌, pred, ◌≤◌}
use native.Mathlib.Omega.{arith}
use borrow.Author.Tests.{ltb-false}
use mathlib.Core.Path.{◌≡◌, refl}
use mathlib.Core.Bool.{Bool, true, false, cond, not, ◌&&◌}
use lib.ListN.{length}
use lib.Dec.{eqb, ltb}
use Rattle.theory.specs.Limit.{most_entries, longest_text}
use Rattle.theory.specs.Refusal.{Refusal, refusal, success, or_else, columns_differ, table_empty, table_long, room_small}
use Rattle.theory.specs.Grammar.{Text, Reading, Reads, whole, broken, stopped, deep, many}
use Rattle.theory.specs.Read.{Due, differ, long, short, entered}
use Rattle.theory.specs.Table.{Table, size, row, first_fault, entry_fault, naming_fault, table_refusal, tree}
use Rattle.theory.specs.Build.{Lent, even, over_room, build_refusal}

reads_place : {room : ℕ} {text : Text} {q : Reading} → Reads room text q → (entered q).refusal.place ≤ length text
reads_place (whole e w s p) = omega arith
reads_place (broken p l h v) = omega arith
reads_place (stopped h w) = omega arith
reads_place (deep p l h v d) = omega arith
reads_place (many p l h v d) = omega arith

pub reader_place : {text : Text} {t : Table} {q : Reading} → Due text t q → (entered q).refusal.place ≤ longest_text
reader_place (differ n) = omega arith
reader_place (long e e' l) = omega arith
reader_place (short e e' l r) = let p = reads_place r in omega arith

-- The last entry that can be at fault is the last that is looked at.
first_place : (fault : ℕ → ℕ) (i k : ℕ) → (first_fault fault i k).place ≤ i + k - 1
unfolding first_fault
first_place fault i zero = omega arith
first_place fault i (suc k) = go (eqb (fault i) 0) (first_place fault (suc i) k)
  where
    here : Bool → Refusal
    here b = elim b [ true ↦ first_fault fault (suc i) k | false ↦ refusal (fault i) i ]

    go : (b : Bool) → (first_fault fault (suc i) k).place ≤ suc i + k - 1 → (here b).place ≤ i + suc k - 1
    go true l = omega arith
    go false l = omega arith

either_place : (n : ℕ) (b : Bool) (r s : Refusal) → r.place ≤ n → s.place ≤ n → (cond b r s).place ≤ n
either_place n true r s l k = l
either_place n false r s l k = k

table_place : (t : Table) → (table_refusal t).place ≤ most_entries - 1
unfolding table_refusal
table_place t = by (not (eqb (length t.left) (size t) && eqb (length t.right) (size t))) (eqb (size t) 0) (ltb most_entries (size t)) refl
  where
    faults : Refusal
    faults = first_fault (λ i. entry_fault (size t) i (row t i)) 0 (size t)

    names : Refusal
    names = first_fault (naming_fault t) 0 (pred (size t))

    by : (uneven empty large : Bool) → ltb most_entries (size t) ≡ large
        → (cond uneven (refusal columns_differ 0) (cond empty (refusal table_empty 0) (cond large (refusal table_long 0) (or_else faults names)))).place
        ≤ most_entries - 1
    by true empty large e = omega arith
    by false true large e = omega arith
    by false false true e = omega arith
    by false false false e =
        let l = ltb-false most_entries (size t) e in
        let f = first_place (λ i. entry_fault (size t) i (row t i)) 0 (size t) in
        let n = first_place (naming_fault t) 0 (pred (size t)) in
        either_place (most_entries - 1) (eqb faults.number 0) names faults (omega arith) (omega arith)

pub builder_place : (g : Table) (c : Lent) → (build_refusal g c).place ≤ most_entries - 1
unfolding build_refusal
builder_place g c =
    either_place (most_entries - 1) (even c) _ (refusal columns_differ 0)
    (either_place (most_entries - 1) (eqb (table_refusal g).number 0) (cond (over_room (tree g) c) (refusal room_small 0) success) (table_refusal g)
    (either_place (most_entries - 1) (over_room (tree g) c) (refusal room_small 0) success (omega arith) (omega arith)) (table_place g))
    (omega arith)
