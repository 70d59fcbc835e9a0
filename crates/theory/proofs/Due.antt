-- One reading is due for a text and the columns lent, and what it leaves in them. Leans on `Grammar`: a text has one reading.
use native.Mathlib.Omega.{arith}
use mathlib.Core.Path.{◌≡◌, refl}
use Rattle.theory.specs.Table.{Table, table}
use Rattle.theory.specs.Grammar.{Text, Reading}
use Rattle.theory.specs.Read.{Read, Entered, Due, differ, long, short}
pub use Rattle.theory.specs.Read.{left_by}
use Rattle.theory.proofs.Grammar.{reads_once}

pub due_once : {text : Text} {t : Table} {r r' : Reading} → Due text t r → Due text t r' → r ≡ r'
due_once (differ n) (differ m) = refl
due_once (differ n) (long p q l) = absurd (n (p, q))
due_once (differ n) (short p q l h) = absurd (n (p, q))
due_once (long p q l) (differ n) = absurd (n (p, q))
due_once (long p q l) (long p' q' l') = refl
due_once (long p q l) (short p' q' l' h) = absurd (omega arith)
due_once (short p q l h) (differ n) = absurd (n (p, q))
due_once (short p q l h) (long p' q' l') = absurd (omega arith)
due_once (short p q l h) (short p' q' l' h') = reads_once h h'

pub leaves : {text : Text} {t : Table} {answer : Entered} {t' : Table} (h : Read text t answer t') → t' ≡ left_by t h.reading
leaves h = λ i. table (h.kind i) (h.left i) (h.right i)
