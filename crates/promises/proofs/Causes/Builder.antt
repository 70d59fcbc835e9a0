-- The builder's refusals have their causes. Leans on `Causes.Table` for the given table.
use Prim.Native.Nat.{◌≤◌}
use native.Mathlib.Decide.{ℕ_discrete}
use native.Mathlib.Omega.{arith}
use mathlib.Core.Path.{◌≡◌, refl, sym, ap, ◌∙◌}
use mathlib.Core.Bool.{Bool, true, false, cond, false≢true}
use Rattle.theory.specs.Refusal.{Refusal, refusal, success, or_else, room_small}
use Rattle.theory.specs.Table.{Table, tree}
use Rattle.theory.specs.Build.{Lent, Counts, counts, Built, even, over_room, build_refusal, EvenLent}
use Rattle.theory.proofs.Tests.{false_of}
use Rattle.theory.proofs.Answers.{counts_built, counts_refused}
use Rattle.theory.proofs.BuilderRefusal.{even_iff, over_iff, ordered, refusal_by}
use Rattle.promises.specs.Table as Tables
use Rattle.promises.specs.Table.{WellFormed, TableCause}
use Rattle.promises.specs.Builder.{BuilderCause, differ, table, room, none, BuilderMeets}
use Rattle.promises.proofs.Causes.Exactly.{exactly}
use Rattle.promises.proofs.Causes.Table.{stands, table_clear, table_caused, table_due, table_numbered}

-- ---- All refusals

module _ (g : Table) (c : Lent) where
  pub builder_caused : BuilderCause g c (build_refusal g c)
  unfolding build_refusal
  builder_caused = go (even c) (over_room (tree g) c) refl refl (table_caused g)
    where
      fits : (over : Bool) → EvenLent c → over_room (tree g) c ≡ over → WellFormed g → BuilderCause g c (cond over (refusal room_small 0) success)
      fits true v o w = room v w ((over_iff (tree g) c).0 o)
      fits false v o w = none v w (λ l. false≢true (sym o ∙ (over_iff (tree g) c).1 l))

      go : (b over : Bool) {r : Refusal} → even c ≡ b → over_room (tree g) c ≡ over → TableCause g r → BuilderCause g c (ordered b r over)
      go false over q o t = differ (λ v. false≢true (sym q ∙ (even_iff c).1 v))
      go true over {r} q o t = decide (ℕ_discrete r.number 0)
        where
          decide : Dec (r.number ≡ 0) → BuilderCause g c (or_else r (cond over (refusal room_small 0) success))
          decide (yes z) = let (w, s) = table_clear g t z in rw s (fits over ((even_iff c).0 q) o w)
          decide (no n) = rw (stands r (cond over (refusal room_small 0) success) n) (table ((even_iff c).0 q) t n)

  pub builder_due : {r : Refusal} → BuilderCause g c r → build_refusal g c ≡ r
  builder_due (differ n) = refusal_by g c (false_of (even c) (λ q. n ((even_iff c).0 q))) refl refl
  builder_due (table {r} v t n) = refusal_by g c ((even_iff c).1 v) (table_due g t) refl ∙ stands r _ n
  builder_due (room v w o) = refusal_by g c ((even_iff c).1 v) (table_due g (Tables.none w)) ((over_iff (tree g) c).1 o)
  builder_due (none v w n) = refusal_by g c ((even_iff c).1 v) (table_due g (Tables.none w)) (false_of _ (λ q. n ((over_iff (tree g) c).0 q)))

  pub builder_numbered : {r : Refusal} → BuilderCause g c r → r.number ≤ room_small
  builder_numbered (differ n) = omega arith
  builder_numbered (table v t n) = let l = table_numbered g t in omega arith
  builder_numbered (room v w o) = omega arith
  builder_numbered (none v w n) = omega arith

  pub builder_clear : {r : Refusal} → BuilderCause g c r → r.number ≡ 0 → r ≡ success
  builder_clear (differ n) z = absurd (omega arith)
  builder_clear (table v t n) z = absurd (n z)
  builder_clear (room v w o) z = absurd (omega arith)
  builder_clear (none v w n) z = refl

-- The answer's refusal is the one that is due.
pub builder_answers : {g : Table} {c : Lent} {answer : Counts} {c' : Lent} → Built g c answer c' → answer.refusal ≡ build_refusal g c
builder_answers {g} {c} h = ap (λ (a : Counts). a.refusal) h.answers ∙ go (ℕ_discrete (build_refusal g c).number 0)
  where
    go : Dec ((build_refusal g c).number ≡ 0) → (counts g c).refusal ≡ build_refusal g c
    go (yes z) = ap (λ (a : Counts). a.refusal) (counts_built g c z) ∙ sym (builder_clear g c (builder_caused g c) z)
    go (no n) = ap (λ (a : Counts). a.refusal) (counts_refused g c n)

pub builder_number : {g : Table} {c : Lent} {answer : Counts} {c' : Lent} → Built g c answer c' → answer.refusal.number ≡ (build_refusal g c).number
builder_number h = ap (λ (r : Refusal). r.number) (builder_answers h)

-- ---- The demand

pub builder_meets : {g : Table} {c : Lent} {answer : Counts} {c' : Lent} → Built g c answer c' → BuilderMeets g c answer c'
builder_meets {g} {c} {answer} h = record {
  exact = exactly (BuilderCause g c) (builder_answers h) (builder_caused g c) (λ r. builder_due g c);
  numbered = rw (builder_answers h) (let l = builder_numbered g c (builder_caused g c) in omega arith);
  counts = λ n. let e = h.answers ∙ counts_refused g c (again n) in
      (ap (λ (a : Counts). a.states) e, ap (λ (a : Counts). a.expressions) e, ap (λ (a : Counts). a.arcs) e);
  columns = λ n. h.refused (again n);
}
  where
    again : ¬ (answer.refusal.number ≡ 0) → ¬ ((build_refusal g c).number ≡ 0)
    again n z = n (builder_number h ∙ z)
