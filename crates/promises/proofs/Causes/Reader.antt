-- The reader's refusals have their causes. Leans on `Grammar`: what a text that is read makes, and on `Due`: one reading is due.
use Prim.Native.Nat.{◌<◌}
use native.Mathlib.Omega.{arith}
use mathlib.Core.Path.{◌≡◌, refl, sym, ap, ◌∙◌}
use mathlib.Core.List.{[], append-nil}
use Rattle.theory.specs.Expression.{Expression}
use Rattle.theory.specs.Refusal.{Refusal, record_long}
use Rattle.theory.specs.Table.{Table}
use Rattle.theory.specs.Grammar.{Text, Reading, read, refused, Passed, Reads, whole, broken, stopped, deep, many}
use Rattle.theory.specs.Read.{Read, Entered, Due, differ, long, short, entered}
use Rattle.theory.proofs.Grammar.Count.{made_written}
use Rattle.theory.proofs.Rows.{read_fits}
use Rattle.theory.proofs.Due.{due_once, left_by, leaves}
use Rattle.promises.specs.Reader as Causes
use Rattle.promises.specs.Reader.{Legible, Written, ReaderCause, ReaderMeets, entry_room}
use Rattle.promises.proofs.Causes.Exactly.{exactly}

module _ {text : Text} {t : Table} where
  pub reader_caused : {q : Reading} → Due text t q → ReaderCause text t (entered q).refusal
  reader_caused (differ n) = Causes.differ n
  reader_caused (long p q l) = Causes.long (p, q) l
  reader_caused (short p q l h) = go (record { even = (p, q); short = l }) h
    where
      go : {q : Reading} → Legible text t → Reads (entry_room t) text q → ReaderCause text t (entered q).refusal
      go v (whole e w x b) =
          Causes.none e (record { legible = v; writable = w; spelled = x; shallow = b.shallow; fits = read_fits (whole e w x b) })
      go v (broken p l b n) = Causes.broken p (record { legible = v; inside = l; passed = b }) n
      go v (stopped b n) = Causes.stopped v b n
      go v (deep p l b a d) = Causes.deep p (record { legible = v; inside = l; passed = b }) a d
      go v (many p l b a d) = Causes.many p (record { legible = v; inside = l; passed = b }) a d

  begun : {q : Reading} → Legible text t → Reads (entry_room t) text q → Due text t q
  begun v h = short v.even.0 v.even.1 v.short h

  -- The reading that a cause makes due.
  pub dues : {r : Refusal} → ReaderCause text t r → (q : Reading) × Due text t q × ((entered q).refusal ≡ r)
  dues (Causes.differ n) = (_, differ n, refl)
  dues (Causes.long v l) = (_, long v.0 v.1 l, refl)
  dues (Causes.broken p b n) = (_, begun b.legible (broken p b.inside b.passed n), refl)
  dues (Causes.stopped v b n) = (_, begun v (stopped b n), refl)
  dues (Causes.deep p b a d) = (_, begun b.legible (deep p b.inside b.passed a d), refl)
  dues (Causes.many p b a d) = (_, begun b.legible (many p b.inside b.passed a d), refl)
  dues (Causes.none e w) = (_, begun w.legible (whole e w.writable w.spelled passed), refl)
    where
      passed : Passed (entry_room t) text
      passed = record {
        viable = ([], (e, w.writable, w.spelled ∙ sym (append-nil text)));
        shallow = w.shallow;
        fits = rw (← w.spelled, made_written e w.writable) w.fits;
      }

  -- A text that is written within the limits is the one that is read.
  pub written_due : {e : Expression} → Written text t e → Due text t (read e)
  unfolding dues
  written_due {e} w = (dues (Causes.none e w)).1

  pub due_written : {e : Expression} → Due text t (read e) → Written text t e
  due_written (short p q l (whole e w x b)) =
      record { legible = record { even = (p, q); short = l }; writable = w; spelled = x; shallow = b.shallow; fits = read_fits (whole e w x b) }

  pub reader_due : {q : Reading} {r : Refusal} → Due text t q → ReaderCause text t r → (entered q).refusal ≡ r
  reader_due d c = let (q, d', e) = dues c in ap (λ q. (entered q).refusal) (due_once d d') ∙ e

  pub reader_numbered : {r : Refusal} → ReaderCause text t r → r.number < record_long
  reader_numbered (Causes.differ n) = omega arith
  reader_numbered (Causes.long v l) = omega arith
  reader_numbered (Causes.broken p b n) = omega arith
  reader_numbered (Causes.stopped v b n) = omega arith
  reader_numbered (Causes.deep p b a d) = omega arith
  reader_numbered (Causes.many p b a d) = omega arith
  reader_numbered (Causes.none e w) = omega arith

-- ---- The demand

refused_so : (q : Reading) → ¬ ((entered q).refusal.number ≡ 0) → (r : Refusal) × (q ≡ refused r)
refused_so (read e) n = absurd (n refl)
refused_so (refused r) n = (r, refl)

pub reader_meets : {text : Text} {t : Table} {answer : Entered} {t' : Table} → Read text t answer t' → ReaderMeets text t answer t'
reader_meets {text} {t} {answer} h = record {
  exact = exactly (ReaderCause text t) same (reader_caused h.due) (λ r c. reader_due h.due c);
  numbered = rw same (reader_numbered (reader_caused h.due));
  count = λ n. ap (λ (a : Entered). a.entries) h.answers ∙ ap (λ (q : Reading). (entered q).entries) (so n).1;
  columns = λ n. leaves h ∙ ap (left_by t) (so n).1;
}
  where
    same : answer.refusal ≡ (entered h.reading).refusal
    same = ap (λ (a : Entered). a.refusal) h.answers

    so : ¬ (answer.refusal.number ≡ 0) → (r : Refusal) × (h.reading ≡ refused r)
    so n = refused_so h.reading (λ z. n (ap (λ (r : Refusal). r.number) same ∙ z))
