-- A text that is read is read as an expression, and the part of the columns that the reader filled holds its rows.
use Prim.Native.Nat.{ℕ, ◌≤◌, min}
use native.Mathlib.Omega.{arith}
use mathlib.Core.Path.{◌≡◌, refl, ap, ap₂, ◌∙◌}
use mathlib.Core.List.{map}
use lib.ListN.{length, take, length-map}
use lib.Seq.{take_at}
use Rattle.theory.specs.Expression.{Expression, entries}
use Rattle.theory.specs.Column.{filled}
use Rattle.theory.specs.Table.{Table, Row, table, columns}
use Rattle.theory.specs.Grammar.{Text, Reading, read, rows, written, Writable, Reads, whole, broken, stopped, deep, many}
use Rattle.theory.specs.Limit.{most_entries}
use Rattle.theory.specs.Read.{Read, Entered, entered, filled_part, left_by, Due, differ, long, short}
use Rattle.theory.proofs.Due.{leaves}
use Rattle.theory.proofs.Rows.{read_fits, rows_length}

-- The expression that was read.
pub record Expressed (text : Text) (q : Reading) : Type 0 where
  pub expression : Expression
  pub is : q ≡ read expression
  pub writable : Writable expression
  pub spelled : written expression ≡ text
  pub fits : entries expression ≤ most_entries

pub expressed : {text : Text} {t : Table} {q : Reading} → Due text t q → (entered q).refusal.number ≡ 0 → Expressed text q
expressed (differ n) z = absurd (omega arith)
expressed (long p q l) z = absurd (omega arith)
expressed {text} {t} (short p q l h) z = go h z
  where
    go : {q : Reading} → Reads (min most_entries (length t.kind)) text q → (entered q).refusal.number ≡ 0 → Expressed text q
    go (whole e w x b) z = let f = read_fits (whole e w x b) in record { expression = e; is = refl; writable = w; spelled = x; fits = omega arith }
    go (broken p l b n) z = absurd (omega arith)
    go (stopped b n) z = absurd (omega arith)
    go (deep p l b a d) z = absurd (omega arith)
    go (many p l b a d) z = absurd (omega arith)

-- The part that was filled holds the rows of the expression.
part_rows : (t : Table) (e : Expression) → filled_part (entered (read e)) (left_by t (read e)) ≡ columns (rows 0 e)
part_rows t e = λ i.
    table (part (λ w. w.kind) (length t.kind) i) (part (λ w. w.left) (length t.left) i) (part (λ w. w.right) (length t.right) i)
  where
    part : (field : Row → ℕ) (n : ℕ) → take (entries e) (filled n (map field (rows 0 e))) ≡ map field (rows 0 e)
    part field n = take_at (map field (rows 0 e)) _ (entries e) (length-map (rows 0 e) field ∙ rows_length 0 e)

pub filled_rows : {text : Text} {t : Table} {answer : Entered} {t' : Table} (h : Read text t answer t') (x : Expressed text h.reading)
    → filled_part answer t' ≡ columns (rows 0 x.expression)
filled_rows {t = t} h x = ap₂ filled_part (h.answers ∙ ap entered x.is) (leaves h ∙ ap (left_by t) x.is) ∙ part_rows t x.expression
