-- Refusals 1 to 8 of a table have their causes. Leans on `FirstFound` for what a scan of the entries finds.
use Prim.Native.Nat.{ℕ, pred, ◌≤◌, ◌<◌}
use native.Mathlib.Decide.{ℕ_discrete, dec_lt}
use native.Mathlib.Omega.{arith}
use mathlib.Core.Path.{◌≡◌, refl, sym, ap, ap₂, ◌∙◌, subst}
use mathlib.Core.Bool.{Bool, true, false, cond, not, ◌&&◌, false≢true}
use mathlib.Core.List.Memᴰ
use mathlib.Core.List.{List, [], ◌∷◌, Memᴰ}
use lib.ListN.{length}
use lib.Dec.{eqb, ltb}
use borrow.Author.Tests.{eqb-true, eqb-false, eq-eqb, ne_eqb, ltb-true, ltb-false, lt-ltb, le-ltb}
use Rattle.theory.specs.Kind as Kind
use Rattle.theory.specs.Limit.{most_entries}
use Rattle.theory.specs.Refusal.{Refusal, refusal, success, or_else, kind_unknown, field_outside, child_not_smaller, empty_language_inside}
use Rattle.theory.specs.Table.{Table, Row, row, size, meaning, children, fields_fit, row_children, all_smaller, entry_fault, naming_fault, first_fault, table_refusal, SameLengths}
use Rattle.theory.proofs.Tests.{false_of, true_of}
use Rattle.theory.proofs.TableRefusal.{refused_differ, refused_empty, refused_long, refused_later}
use Rattle.theory.proofs.Times.{fault_none, fault_found, once_of}
use Rattle.theory.proofs.FirstFound.{Scanned, clean, faulty, scanned, scanned_once}
use Rattle.theory.proofs.WellFormed.{smaller_of}
use Rattle.std.specs.Prelude.{Result}
use Rattle.theory.specs.Stated.{refusal_in}
use Rattle.theory.specs.declared.refusal.Refusal.{Refusal as Refused}
use Rattle.promises.proofs.Tested.{fits, tested, known, children_are}
use Rattle.promises.proofs.Causes.Exactly.{exactly}
use Rattle.promises.specs.Table.{Faultless, WellFormed, TableMeets, EntryCause, unknown, outside, not_smaller, inside, Sized, FaultlessBefore, NamedOnce, TableCause, differ, empty, long, entry, not_once, none}

-- ---- One entry

-- The first child that is not smaller, where the test fails.
larger_found : (i : ℕ) (cs : List ℕ) → all_smaller i cs ≡ false → (c : ℕ) × Memᴰ c cs × (i ≤ c)
unfolding all_smaller
larger_found i [] e = absurd (false≢true (sym e))
larger_found i (d ∷ ds) e = go (ltb d i) refl e (larger_found i ds)
  where
    go : (b : Bool) → ltb d i ≡ b → (b && all_smaller i ds) ≡ false → (all_smaller i ds ≡ false → (c : ℕ) × Memᴰ c ds × (i ≤ c))
        → (c : ℕ) × Memᴰ c (d ∷ ds) × (i ≤ c)
    go true q h ih = let (c, m, l) = ih h in (c, Memᴰ.tail m, l)
    go false q h ih = (d, Memᴰ.head refl, ltb-false d i q)

-- An entry is without fault or there is cause for its refusal.
data Examined (n i : ℕ) (w : Row) : ℕ → Type 0 where
  right : Faultless n i w → Examined n i w 0
  wrong : {k : ℕ} → EntryCause n i w k → (k ≡ 0 → ⊥) → Examined n i w k

module _ (n i : ℕ) (w : Row) where
  ordered : Bool → Bool → Bool → Bool → Bool → ℕ
  ordered a b c d e = cond a kind_unknown (cond (not b) field_outside (cond (not c) child_not_smaller (cond (d && e) empty_language_inside 0)))

  examined : Examined n i w (entry_fault n i w)
  unfolding entry_fault ordered
  examined =
      go (ltb Kind.last w.kind) (fields_fit (meaning w.kind) w.left w.right) (all_smaller i (row_children w)) (eqb w.kind 0) (ltb 1 n) refl
      refl refl refl refl
    where
      found : w.kind ≤ 6 → fields_fit (meaning w.kind) w.left w.right ≡ true → all_smaller i (row_children w) ≡ true → (w.kind ≡ 0 → n ≤ 1)
          → Faultless n i w
      found l f e a = record { fits = fits w l f; smaller = λ c m. smaller_of i (row_children w) e c ((children_are w c).1 m); alone = a }

      go : (a b c d e : Bool) → ltb Kind.last w.kind ≡ a → fields_fit (meaning w.kind) w.left w.right ≡ b → all_smaller i (row_children w) ≡ c
          → eqb w.kind 0 ≡ d → ltb 1 n ≡ e → Examined n i w (ordered a b c d e)
      go true b c d e p q r s u = wrong (unknown (ltb-true 6 w.kind p)) (λ z. omega arith)
      go false false c d e p q r s u = wrong (outside (ltb-false 6 w.kind p) (λ f. false≢true (sym q ∙ tested w f))) (λ z. omega arith)
      go false true false d e p q r s u =
          let (c, m, l) = larger_found i (row_children w) r in
          wrong (not_smaller (fits w (ltb-false 6 w.kind p) q) c ((children_are w c).0 m) l) (λ z. omega arith)
      go false true true true true p q r s u =
          wrong (inside (eqb-true w.kind 0 s) (fits w (ltb-false 6 w.kind p) q) (ltb-true 1 n u)) (λ z. omega arith)
      go false true true true false p q r s u =
          right (found (ltb-false 6 w.kind p) q r (λ _. ltb-false 1 n u))
      go false true true false e p q r s u =
          right (found (ltb-false 6 w.kind p) q r (λ k. absurd (eqb-false w.kind 0 s k)))

  due : {a b c d e : Bool} → ltb Kind.last w.kind ≡ a → fields_fit (meaning w.kind) w.left w.right ≡ b → all_smaller i (row_children w) ≡ c
      → eqb w.kind 0 ≡ d → ltb 1 n ≡ e → entry_fault n i w ≡ ordered a b c d e
  unfolding entry_fault ordered
  due p q r s u = λ j. ordered (p j) (q j) (r j) (s j) (u j)

  smaller_passes : ((c : ℕ) → Memᴰ c (row_children w) → c < i) → all_smaller i (row_children w) ≡ true
  smaller_passes h =
      true_of _ (λ f. let (c, m, l) = larger_found i (row_children w) f in let k = h c m in omega arith)

  fault_due : {k : ℕ} → EntryCause n i w k → entry_fault n i w ≡ k
  unfolding ordered meaning row_children children
  fault_due (unknown l) = due (lt-ltb 6 w.kind l) refl refl refl refl
  fault_due (outside l f) = due (le-ltb 6 w.kind l) (false_of _ (λ e. f (fits w l e))) refl refl refl
  fault_due (not_smaller f c m b) =
      due (le-ltb 6 w.kind (known w f)) (tested w f)
      (false_of _ (λ e. let k = smaller_of i (row_children w) e c ((children_are w c).1 m) in omega arith)) refl refl
  fault_due (inside z f l) =
      due (le-ltb 6 w.kind (omega arith)) (tested w f) (smaller_passes (λ c m. absurd (Memᴰ.not-nil (rw z at m)))) (eq-eqb w.kind 0 z)
      (lt-ltb 1 n l)

  none_due : Faultless n i w → entry_fault n i w ≡ 0
  unfolding ordered
  none_due h = go (ℕ_discrete w.kind 0)
    where
      smaller : all_smaller i (row_children w) ≡ true
      smaller = smaller_passes (λ c m. h.smaller c ((children_are w c).0 m))

      go : Dec (w.kind ≡ 0) → entry_fault n i w ≡ 0
      go (yes z) = due (le-ltb 6 w.kind (known w h.fits)) (tested w h.fits) smaller (eq-eqb w.kind 0 z) (le-ltb 1 n (h.alone z))
      go (no f) = due (le-ltb 6 w.kind (known w h.fits)) (tested w h.fits) smaller (ne_eqb w.kind 0 f) refl

  a_fault : {k : ℕ} → EntryCause n i w k → k ≡ 0 → ⊥
  a_fault (unknown l) z = omega arith
  a_fault (outside l f) z = omega arith
  a_fault (not_smaller f c m b) z = omega arith
  a_fault (inside z f l) q = omega arith

-- ---- The whole table

-- The first refusal stands, where it is one.
pub stands : (r s : Refusal) → (r.number ≡ 0 → ⊥) → or_else r s ≡ r
stands r s n = rw (ne_eqb r.number 0 n)

module _ (g : Table) where
  fault : ℕ → ℕ
  fault i = entry_fault (size g) i (row g i)

  faultless : {k : ℕ} (i : ℕ) → Examined (size g) i (row g i) k → k ≡ 0 → Faultless (size g) i (row g i)
  faultless i (right h) z = h
  faultless i (wrong c n) z = absurd (n z)

  caused_by : {k : ℕ} (i : ℕ) → Examined (size g) i (row g i) k → (k ≡ 0 → ⊥) → EntryCause (size g) i (row g i) k
  caused_by i (right h) n = absurd (n refl)
  caused_by i (wrong c m) n = c

  all_faultless : (n : ℕ) → ((i : ℕ) → i < n → fault i ≡ 0) → FaultlessBefore g n
  unfolding fault
  all_faultless n h i l = faultless i (examined (size g) i (row g i)) (h i l)

  named_caused : {r : Refusal} → Sized g → FaultlessBefore g (size g) → Scanned (naming_fault g) (pred (size g)) r → TableCause g r
  named_caused v h (clean o) =
      none (record { sized = v; faultless = h; once = λ i l. once_of g i (o i l) })
  named_caused v h (faulty p l b f) =
      let n : ¬ NamedOnce g p = λ o. f (fault_none g p o) in
      rw (fault_found g p n) (not_once v h p l (λ i m. once_of g i (b i m)) n)

  later_caused : {r : Refusal} → Sized g → Scanned fault (size g) r → TableCause g (or_else r (first_fault (naming_fault g) 0 (pred (size g))))
  unfolding fault
  later_caused v (clean h) = named_caused v (all_faultless (size g) h) (scanned (naming_fault g) (pred (size g)))
  later_caused v (faulty p l b f) =
      rw (ne_eqb (fault p) 0 f) (entry v p l (all_faultless p b) (caused_by p (examined (size g) p (row g p)) f))

  pub table_caused : TableCause g (table_refusal g)
  unfolding fault
  table_caused = first (ℕ_discrete (length g.left) (size g)) (ℕ_discrete (length g.right) (size g))
    where
      caused : {r : Refusal} → table_refusal g ≡ r → TableCause g r → TableCause g (table_refusal g)
      caused e c = subst (TableCause g) (sym e) c

      third : SameLengths g → (size g ≡ 0 → ⊥) → Dec (most_entries < size g) → TableCause g (table_refusal g)
      third v n (yes l) = caused (refused_long g v n l) (long v l)
      third v n (no m) =
          caused (refused_later g v n (omega arith))
          (later_caused (record { even = v; nonempty = omega arith; short = omega arith }) (scanned fault (size g)))

      second : SameLengths g → Dec (size g ≡ 0) → TableCause g (table_refusal g)
      second v (yes z) = caused (refused_empty g v z) (empty v z)
      second v (no n) = third v n (dec_lt most_entries (size g))

      first : Dec (length g.left ≡ size g) → Dec (length g.right ≡ size g) → TableCause g (table_refusal g)
      first (yes p) (yes q) = second (p, q) (ℕ_discrete (size g) 0)
      first (yes p) (no n) = caused (refused_differ g (λ v. n v.1)) (differ (λ v. n v.1))
      first (no n) d = caused (refused_differ g (λ v. n v.0)) (differ (λ v. n v.0))

  later_due : {r s : Refusal} → Sized g → Scanned fault (size g) r → Scanned (naming_fault g) (pred (size g)) s → table_refusal g ≡ or_else r s
  unfolding fault
  later_due {r} {s} v a b =
      let m = pred (size g) in
      refused_later g v.even (λ z. let n = v.nonempty in omega arith) v.short
      ∙ ap₂ or_else (scanned_once fault (size g) (scanned fault (size g)) a) (scanned_once (naming_fault g) m (scanned (naming_fault g) m) b)

  none_before : (p : ℕ) → FaultlessBefore g p → (i : ℕ) → i < p → fault i ≡ 0
  unfolding fault
  none_before p h i l = none_due (size g) i (row g i) (h i l)

  pub table_due : {r : Refusal} → TableCause g r → table_refusal g ≡ r
  unfolding fault
  table_due (differ n) = refused_differ g n
  table_due (empty v z) = refused_empty g v z
  table_due (long v l) = refused_long g v (λ z. omega arith) l
  table_due (entry v p l h c) =
      let e = fault_due (size g) p (row g p) c in
      let n : fault p ≡ 0 → ⊥ = λ z. a_fault (size g) p (row g p) c (sym e ∙ z) in
      later_due v (faulty p l (none_before p h) n) (scanned (naming_fault g) (pred (size g)))
      ∙ stands (refusal (fault p) p) _ n ∙ ap (λ (k : ℕ). refusal k p) e
  table_due (not_once v h p l o n) =
      later_due v (clean (none_before (size g) h)) (faulty p l (λ i m. fault_none g i (o i m)) (λ z. n (once_of g p z)))
      ∙ ap (λ (k : ℕ). refusal k p) (fault_found g p n)
  table_due (none w) =
      later_due w.sized (clean (none_before (size g) w.faultless)) (clean (λ i l. fault_none g i (w.once i l)))

  pub table_numbered : {r : Refusal} → TableCause g r → r.number ≤ 8
  table_numbered (differ n) = omega arith
  table_numbered (empty v z) = omega arith
  table_numbered (long v l) = omega arith
  table_numbered (entry v p l h (unknown a)) = omega arith
  table_numbered (entry v p l h (outside a f)) = omega arith
  table_numbered (entry v p l h (not_smaller f c m b)) = omega arith
  table_numbered (entry v p l h (inside z f a)) = omega arith
  table_numbered (not_once v h p l o n) = omega arith
  table_numbered (none w) = omega arith

  pub table_clear : {r : Refusal} → TableCause g r → r.number ≡ 0 → WellFormed g × (r ≡ success)
  table_clear (differ n) z = absurd (omega arith)
  table_clear (empty v e) z = absurd (omega arith)
  table_clear (long v l) z = absurd (omega arith)
  table_clear (entry v p l h c) z = absurd (a_fault (size g) p (row g p) c z)
  table_clear (not_once v h p l o n) z = absurd (omega arith)
  table_clear (none w) z = (w, refl)

-- ---- The demand

pub table_meets : (g : Table) (answer : Result Unit Refused) → refusal_in answer ≡ table_refusal g → TableMeets g answer
table_meets g answer h = record {
  exact = exactly (TableCause g) h (table_caused g) (λ r. table_due g);
  numbered = let l = table_numbered g (table_caused g) in let e = ap (λ (r : Refusal). r.number) h in omega arith;
}
