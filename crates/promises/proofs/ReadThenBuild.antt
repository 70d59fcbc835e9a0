-- A text that is read is never refused with 1 to 8.
use Prim.Native.Nat.{◌≤◌}
use mathlib.Core.Path.{◌≡◌, refl, sym, ap, ◌∙◌, subst}
use mathlib.Core.Logic.{◌⊎◌, inl, inr}
use Rattle.theory.specs.Expression.{Expression, entries}
use Rattle.theory.specs.Limit.{most_entries}
use Rattle.theory.specs.Refusal.{Refusal, success, room_small}
use Rattle.theory.specs.Table.{Table, columns, table_refusal}
use Rattle.theory.specs.Grammar.{Text, rows, written, Writable}
use Rattle.theory.specs.Read.{Read, Entered, filled_part}
use Rattle.theory.specs.Build.{Lent, EvenLent}
use Rattle.theory.proofs.Expressed.{expressed, filled_rows}
use Rattle.theory.proofs.Rows.{rows_tree, rows_refused_never}
use Rattle.promises.specs.Builder.{BuilderCause, room, none}
use Rattle.promises.specs.Builder as Building
use Rattle.promises.proofs.Causes.Table.{table_due}
use Rattle.promises.proofs.Causes.Builder.{builder_caused, builder_answers}
use Rattle.promises.specs.ReadThenBuild.{ReadThenBuild}

room_alone : {g : Table} {c : Lent} {r : Refusal} → table_refusal g ≡ success → EvenLent c → BuilderCause g c r
    → (r.number ≡ 0) ⊎ (r.number ≡ room_small)
room_alone s v (Building.differ n) = absurd (n v)
room_alone {g} s v (Building.table u t n) = absurd (n (ap (λ (r : Refusal). r.number) (sym (table_due g t) ∙ s)))
room_alone s v (room u w o) = inr refl
room_alone s v (none u w n) = inl refl

-- The promise over the rows of a written expression.
handed_on : {text : Text} (e : Expression) → Writable e → written e ≡ text → entries e ≤ most_entries → ReadThenBuild text (columns (rows 0 e))
handed_on {text} e w x l = record {
  faultless = rows_refused_never e w l;
  writable = subst Writable (sym (rows_tree e)) w;
  spelled = ap written (rows_tree e) ∙ x;
  builds = λ {c} v h.
      subst (λ (r : Refusal). (r.number ≡ 0) ⊎ (r.number ≡ room_small)) (sym (builder_answers h))
      (room_alone (rows_refused_never e w l) v (builder_caused (columns (rows 0 e)) c));
}

pub read_then_build : {text : Text} {t : Table} {answer : Entered} {t' : Table} → Read text t answer t' → answer.refusal.number ≡ 0
    → ReadThenBuild text (filled_part answer t')
read_then_build {text} h z =
    let x = expressed h.due (ap (λ (a : Entered). a.refusal.number) (sym h.answers) ∙ z) in
    subst (ReadThenBuild text) (sym (filled_rows h x)) (handed_on x.expression x.writable x.spelled x.fits)
