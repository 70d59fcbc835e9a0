-- The given table's automaton in the columns of `build`, from what stands in the builder's hands.
use Prim.Native.Nat.{ℕ}
use mathlib.Core.Path.{◌≡◌, sym, subst}
use mathlib.Core.Bool.{true, false, true≢false}
use mathlib.Core.List.{List}
use Rattle.std.specs.Prelude.{Result, Ok, Err, IsErr}
use Rattle.theory.specs.Expression.{Expression}
use Rattle.theory.specs.Table.{Table, table}
use Rattle.theory.specs.Arcs.{arc_columns}
use Rattle.theory.specs.Build.{Lent, lent}
use Rattle.derive.specs.declared.rows.Rows.{Rows}
use Rattle.derive.specs.declared.rows.NoRoom.{NoRoom}
use Rattle.builder.specs.declared.Counts.{Counts as Told}
use Rattle.builder.specs.declared.states.States.{States}
use Rattle.builder.specs.declared.arcs.Arcs.{Arcs}
use Rattle.builder.specs.Columns.{Counts, held}
use Rattle.builder.specs.Progress.{Exceeds, Blank, Standing, Started, Reaches, Makes}
use Rattle.builder.proofs.Lengths.{SameLengths}
use Rattle.builder.proofs.Starting.{standing_started}

pub rooms_as : {rooms : Counts} {r s a : ℕ} → r ≡ rooms.rows → s ≡ rooms.states → a ≡ rooms.arcs → record { rows = r; states = s; arcs = a } ≡ rooms
rooms_as p q o = λ i. record { rows = p i; states = q i; arcs = o i }

pub columns_as : (r : Rows) (s : States) (a : Arcs) {kind left right expression accepting from letter to : List ℕ} → kind ≡ r.kind.now → left ≡ r.left.now
    → right ≡ r.right.now → expression ≡ s.expression.now → accepting ≡ s.accepting.now → from ≡ a.from.now → letter ≡ a.letter.now → to ≡ a.to.now
    → held r s a ≡ lent (table kind left right) expression accepting (arc_columns from letter to)
columns_as _ _ _ k l r x f g h j = sym (λ i. lent (table (k i) (l i) (r i)) (x i) (f i) (arc_columns (g i) (h i) (j i)))

module _ (e : Expression) {rooms rooms' : Counts} (same : rooms' ≡ rooms) where
  pub made_not : Exceeds e rooms' → (w : Result Told NoRoom) → IsErr w → (c : Lent) → Makes e rooms w c
  made_not q (Ok k) no_ok c = let z : false ≡ true = no_ok in absurd (true≢false (sym z))
  made_not q (Err x) is_err c = subst (Exceeds e) same q

  pub made_of : {x : Expression} → x ≡ e → {w : Result Unit NoRoom} {k : Counts} {c c' : Lent} → c ≡ c' → Reaches x rooms' w k c → Reaches e rooms w k c'
  made_of is {w} {k} {c} at h =
      subst (λ y. Reaches e rooms w k y) at (subst (λ q. Reaches e q w k c) same (subst (λ y. Reaches y rooms' w k c) is h))

module _ {e : Expression} {c : Lent} {t : Table} {column flags : List ℕ} {k rooms rooms₀ rooms' : Counts} where
  pub made_started : Standing e rooms₀ k t column flags → rooms₀ ≡ rooms → Blank rooms c → SameLengths c (lent t column flags c.arcs) → rooms' ≡ rooms
      → Started (lent t column flags c.arcs) rooms' k
  made_started s q b l q' =
      subst (λ r. Started (lent t column flags c.arcs) r k) (sym q')
      (standing_started (subst (λ r. Standing e r k t column flags) q s) b l)
