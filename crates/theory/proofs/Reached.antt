-- Laws of the states that a record reaches, as a matcher goes along it: one byte more, no state beyond the state count, and the first dead
-- byte. Leans on `Arcs` for what the tests mean.
use Prim.Native.Nat.{ℕ, suc, ◌+◌, ◌≤◌, ◌<◌}
use native.Mathlib.Nat.{lt_of_lt_of_le}
use native.Mathlib.Numerals.{add-one}
use native.Mathlib.Omega.{arith}
use mathlib.Core.Path.{◌≡◌, refl, sym, ap, ◌∙◌}
use mathlib.Core.Bool.{Bool, true, false, false≢true}
use mathlib.Core.List.{[], ◌∷◌, ◌++◌}
use mathlib.Core.Option.{none, some}
use lib.ListN.{length, get_or, take, drop, drop_of_length-le}
use lib.Seq.{take-suc, drop-cons}
use lib.Dec.{eqb}
use borrow.Author.Tests.{ne_eqb}
use Rattle.theory.specs.Language.{Word}
use Rattle.theory.specs.Below.{some_below}
use Rattle.theory.specs.Arcs.{ArcColumns, Arcs, States, start, leaves, leads, moved, after, leads_on, dead_at}
use Rattle.theory.proofs.Below.{some_cong, some_none, some_at, some_of}
use Rattle.theory.proofs.Tests.{false_of}
use Rattle.theory.proofs.Arcs.{leads_iff, moved_iff, leads_on_iff}

-- ---- One byte

leads_cong : (c : ArcColumns) (s r : States) (b t i : ℕ) → s (get_or c.from i 0) ≡ r (get_or c.from i 0) → leads c s b t i ≡ leads c r b t i
unfolding leads leaves
leads_cong c s r b t i e =
    ap (λ (d : Bool). elim (eqb (get_or c.to i 0) t) [
      | true ↦ elim (eqb (get_or c.letter i 0) b) [ true ↦ d | false ↦ false ]
      | false ↦ false
    ]) e

pub moved_cong : (a : Arcs) (s r : States) → ((t : ℕ) → s t ≡ r t) → (b t : ℕ) → moved a s b t ≡ moved a r b t
unfolding moved
moved_cong a s r e b t =
    some_cong a.count (leads a.columns s b t) (leads a.columns r b t) (λ i _. leads_cong a.columns s r b t i (e (get_or a.columns.from i 0)))

-- A byte that does not lead on leads to no state.
pub moved_none : (a : Arcs) (s : States) (b : ℕ) → leads_on a s b ≡ false → (t : ℕ) → moved a s b t ≡ false
moved_none a s b e t = false_of (moved a s b t) (λ h. false≢true (sym e ∙ (leads_on_iff a s b).1 (t, h)))

-- ---- The bytes of a record

pub after_snoc : (a : Arcs) (s : States) (w : Word) (b : ℕ) → after a s (w ++ (b ∷ [])) ≡ moved a (after a s w) b
unfolding after
after_snoc a s [] b = refl
after_snoc a s (c ∷ w) b = after_snoc a (moved a s c) w b

pub after_take : (a : Arcs) (s : States) (w : Word) (p : ℕ) → p < length w
    → after a s (take (p + 1) w) ≡ moved a (after a s (take p w)) (get_or w p 0)
after_take a s w p l = rw (add-one, take-suc w p 0) (after_snoc a s (take p w) (get_or w p 0))

after_none : (a : Arcs) (s : States) → ((t : ℕ) → s t ≡ false) → (w : Word) (t : ℕ) → after a s w t ≡ false
unfolding after
after_none a s e [] t = e t
after_none a s e (b ∷ w) t = after_none a (moved a s b) (λ k. false_of _ (λ h. let (i, q, _) = (moved_iff a s b k).0 h in false≢true (sym (e i) ∙ q))) w t

-- ---- No state beyond the state count

-- Every used arc ends below n.
abbrev pub Ends : Arcs → ℕ → Type 0
Ends a n = (i : ℕ) → i < a.count → get_or a.columns.to i 0 < n

pub start_below : (n : ℕ) → 0 < n → (t : ℕ) → n ≤ t → start t ≡ false
unfolding start
start_below n l t m = ne_eqb t 0 (λ e. omega arith)

module _ (a : Arcs) {n : ℕ} (ends : Ends a n) where
  moved_end : (s : States) (b t : ℕ) → moved a s b t ≡ true → t < n
  unfolding moved
  moved_end s b t e =
      let (k, l, q) = some_of a.count (leads a.columns s b t) e in
      let below = ends k l in
      let (is, _) = (leads_iff a.columns s b k t).0 q in
      omega arith

  pub moved_below : (s : States) (b t : ℕ) → n ≤ t → moved a s b t ≡ false
  moved_below s b t l = false_of _ (λ e. let m = moved_end s b t e in omega arith)

  pub after_below : (s : States) → ((t : ℕ) → n ≤ t → s t ≡ false) → (w : Word) (t : ℕ) → n ≤ t → after a s w t ≡ false
  unfolding after
  after_below s e [] t l = e t l
  after_below s e (b ∷ w) t l = after_below (moved a s b) (moved_below s b) w t l

  -- Whether a byte leads on shows among the states that it leads to, below any number that is at least n.
  pub leads_on_moved : (m : ℕ) → n ≤ m → (s : States) (b : ℕ) → some_below m (moved a s b) ≡ leads_on a s b
  leads_on_moved m l s b = go (leads_on a s b) refl
    where
      go : (d : Bool) → leads_on a s b ≡ d → some_below m (moved a s b) ≡ d
      go true e = let (t, h) = (leads_on_iff a s b).0 e in some_at m (moved a s b) t (lt_of_lt_of_le (moved_end s b t h) l) h
      go false e = some_none m (moved a s b) (λ t _. moved_none a s b e t)

-- ---- The first dead byte

module _ (a : Arcs) (s : States) where
  pub dead_cons : (p b : ℕ) (w : Word) (d : Bool) → leads_on a s b ≡ d
      → dead_at a s p (b ∷ w) ≡ elim d [ true ↦ dead_at a (moved a s b) (suc p) w | false ↦ some p ]
  unfolding dead_at
  dead_cons p b w d e = ap (λ (c : Bool). elim c [ true ↦ dead_at a (moved a s b) (suc p) w | false ↦ some p ]) e

  pub dead_later : (w : Word) (p : ℕ) → p < length w → leads_on a s (get_or w p 0) ≡ true
      → dead_at a s p (drop p w) ≡ dead_at a (moved a s (get_or w p 0)) (p + 1) (drop (p + 1) w)
  dead_later w p l e = rw (add-one, drop-cons w p 0) (dead_cons p (get_or w p 0) (drop (suc p) w) true e)

  pub dead_here : (w : Word) (p : ℕ) → p < length w → leads_on a s (get_or w p 0) ≡ false → dead_at a s p (drop p w) ≡ some p
  dead_here w p l e = rw (drop-cons w p 0) (dead_cons p (get_or w p 0) (drop (suc p) w) false e)

  pub dead_never : (w : Word) (p : ℕ) → length w ≤ p → dead_at a s p (drop p w) ≡ none
  unfolding dead_at
  dead_never w p l = rw (drop_of_length-le w l)

-- After a dead byte no state is reached any more.
pub dead_after : (a : Arcs) (s : States) (p q : ℕ) (w : Word) → dead_at a s p w ≡ some q → (t : ℕ) → after a s w t ≡ false
unfolding after dead_at
dead_after a s p q [] e t = absurd (let z : ◌≡◌ {A = ℕ} 0 1 = cc in omega arith)
dead_after a s p q (b ∷ w) e t = go (leads_on a s b) refl (λ d. dead_after a (moved a s b) (suc p) q w d t)
  where
    go : (d : Bool) → leads_on a s b ≡ d → (dead_at a (moved a s b) (suc p) w ≡ some q → after a (moved a s b) w t ≡ false)
        → after a (moved a s b) w t ≡ false
    go true f later = later (sym (dead_cons a s p b w true f) ∙ e)
    go false f later = after_none a (moved a s b) (moved_none a s b f) w t
