-- Any columns read as arcs: the states that a record reaches are those to which the used arcs lead, and the first byte after which none is
-- reached is the first from which no used arc leads on. Nothing is asked of the columns.
use Prim.Native.Nat.{ℕ, zero, suc, ◌≤◌, ◌<◌}
use native.Mathlib.Nat.{le_refl, le_step, le_of_suc-le-suc, not-suc-le-zero, eq-or-lt_of_le}
use native.Mathlib.Omega.{arith}
use mathlib.Core.Path.{◌≡◌, refl, sym, ap, ap₂, ◌∙◌, subst}
use mathlib.Core.Logic.Iff
use mathlib.Core.Logic.{◌↔◌, ⊎_elim}
use mathlib.Core.Bool.{Bool, true, false, false≢true, and-eq-true_iff}
use mathlib.Core.List.Memᴰ
use mathlib.Core.List.{List, [], ◌∷◌, ◌++◌, Memᴰ}
use lib.ListN.{length, get_or, take}
use lib.Seq.{take-suc, take-length}
use lib.Dec.{eqb}
use borrow.Author.Tests.{eqb-true, eq-eqb}
use Rattle.theory.specs.Language.{Word}
use Rattle.theory.specs.Automaton.{Arc, arc, Leads}
use Rattle.theory.specs.Below.{some_below}
use Rattle.theory.specs.Arcs.{ArcColumns, Arcs, even_arcs, EvenArcs, arc_at, first_arcs, used, States, start, leaves, leads, moved, after, reached, leads_on}
use Rattle.theory.proofs.Below.{some_at, some_of}

-- ---- Columns equally long

pub even_arcs_iff : (c : ArcColumns) → (even_arcs c ≡ true) ↔ EvenArcs c
unfolding even_arcs
even_arcs_iff c = (
  λ e. let (l, t) = (and-eq-true_iff _ _).0 e in record { letter = eqb-true _ _ l; to = eqb-true _ _ t },
  λ v. (and-eq-true_iff _ _).1 (eq-eqb _ _ v.letter, eq-eqb _ _ v.to),
)

-- ---- The arcs that are used

module _ (c : ArcColumns) where
  first_of : (n : ℕ) {z : Arc} → Memᴰ z (first_arcs c n) → (i : ℕ) × (i < n) × (arc_at c i ≡ z)
  unfolding first_arcs
  first_of zero m = absurd (Memᴰ.not-nil m)
  first_of (suc n) m =
      ⊎_elim (λ k. let r = first_of n k in (r.0, le_step r.1, r.2)) (λ k. (n, le_refl (suc n), sym (Memᴰ.eq_of_singleton k)))
      (Memᴰ.append_cases (first_arcs c n) m)

  to_first : (n i : ℕ) → i < n → Memᴰ (arc_at c i) (first_arcs c n)
  unfolding first_arcs
  to_first zero i l = absurd (not-suc-le-zero l)
  to_first (suc n) i l =
      ⊎_elim (λ e. Memᴰ.append_right (first_arcs c n) (Memᴰ.head (ap (arc_at c) e))) (λ m. Memᴰ.append_left (arc_at c n ∷ []) (to_first n i m))
      (eq-or-lt_of_le (le_of_suc-le-suc l))

  first_are : (zs : List Arc) → ((i : ℕ) → arc_at c i ≡ get_or zs i (arc 0 0 0)) → (n : ℕ) → n ≤ length zs → first_arcs c n ≡ take n zs
  unfolding first_arcs
  first_are zs e zero l = refl
  first_are zs e (suc n) l =
      ap₂ (λ (ys : List Arc) (y : Arc). ys ++ (y ∷ [])) (first_are zs e n (omega arith)) (e n) ∙ sym (take-suc zs n (arc 0 0 0) l)

  -- Columns that hold these arcs, as many as are counted.
  pub used_are : (zs : List Arc) → ((i : ℕ) → arc_at c i ≡ get_or zs i (arc 0 0 0)) → first_arcs c (length zs) ≡ zs
  used_are zs e = first_are zs e (length zs) (le_refl (length zs)) ∙ take-length zs

  -- ---- One arc

  module _ (s : States) (b i : ℕ) where
    pub leaves_iff : (leaves c s b i ≡ true) ↔ ((get_or c.letter i 0 ≡ b) × (s (get_or c.from i 0) ≡ true))
    unfolding leaves
    leaves_iff = (forth (eqb (get_or c.letter i 0) b) refl, λ (p, h). rw (eq-eqb _ _ p, leaves) h)
      where
        forth : (d : Bool) → eqb (get_or c.letter i 0) b ≡ d → elim d [ true ↦ s (get_or c.from i 0) | false ↦ false ] ≡ true
            → (get_or c.letter i 0 ≡ b) × (s (get_or c.from i 0) ≡ true)
        forth true p h = (eqb-true _ _ p, h)
        forth false p h = absurd (false≢true h)

    pub leads_iff : (t : ℕ) → (leads c s b t i ≡ true) ↔ ((get_or c.to i 0 ≡ t) × (leaves c s b i ≡ true))
    unfolding leads
    leads_iff t = (forth (eqb (get_or c.to i 0) t) refl, λ (p, h). rw (eq-eqb _ _ p, leads) h)
      where
        forth : (d : Bool) → eqb (get_or c.to i 0) t ≡ d → elim d [ true ↦ leaves c s b i | false ↦ false ] ≡ true
            → (get_or c.to i 0 ≡ t) × (leaves c s b i ≡ true)
        forth true p h = (eqb-true _ _ p, h)
        forth false p h = absurd (false≢true h)

-- ---- One byte

module _ (a : Arcs) (s : States) (b : ℕ) where
  -- The used arcs lead by b from a state of s to t.
  abbrev Moves : ℕ → Type 0
  Moves t = (i : ℕ) × (s i ≡ true) × Memᴰ (arc i b t) (used a)

  pub moved_iff : (t : ℕ) → (moved a s b t ≡ true) ↔ Moves t
  unfolding moved
  moved_iff t = (forth, back)
    where
      forth : some_below a.count (leads a.columns s b t) ≡ true → Moves t
      forth e =
          let (k, l, q) = some_of a.count (leads a.columns s b t) e in
          let (d, r) = (leads_iff a.columns s b k t).0 q in
          let (c, f) = (leaves_iff a.columns s b k).0 r in
          (get_or a.columns.from k 0, f, subst (λ (z : Arc). Memᴰ z (used a)) (cc) (to_first a.columns a.count k l))

      back : Moves t → some_below a.count (leads a.columns s b t) ≡ true
      back (i, q, m) =
          let (k, l, e) = first_of a.columns a.count m in
          some_at a.count (leads a.columns s b t) k l
          ((leads_iff a.columns s b k t).1
          (ap (λ (z : Arc). z.to) e, (leaves_iff a.columns s b k).1 (ap (λ (z : Arc). z.letter) e, ap (λ (z : Arc). s z.from) e ∙ q)))

  pub leads_on_iff : (leads_on a s b ≡ true) ↔ ((t : ℕ) × (moved a s b t ≡ true))
  unfolding moved leads_on
  leads_on_iff = (forth, back)
    where
      forth : some_below a.count (leaves a.columns s b) ≡ true → (t : ℕ) × (some_below a.count (leads a.columns s b t) ≡ true)
      forth e =
          let (k, l, q) = some_of a.count (leaves a.columns s b) e in
          let t = get_or a.columns.to k 0 in
          (t, some_at a.count (leads a.columns s b t) k l ((leads_iff a.columns s b k t).1 (refl, q)))

      back : (t : ℕ) × (some_below a.count (leads a.columns s b t) ≡ true) → some_below a.count (leaves a.columns s b) ≡ true
      back (t, e) =
          let (k, l, q) = some_of a.count (leads a.columns s b t) e in
          some_at a.count (leaves a.columns s b) k l ((leads_iff a.columns s b k t).0 q).1

-- ---- The bytes of a record

-- The used arcs lead by the word w from a state of s to t.
abbrev Comes : Arcs → States → Word → ℕ → Type 0
Comes a s w t = (i : ℕ) × (s i ≡ true) × Leads (used a) i w t

pub after_iff : (a : Arcs) (s : States) (w : Word) (t : ℕ) → (after a s w t ≡ true) ↔ Comes a s w t
unfolding after
after_iff a s [] t = (λ e. (t, e, refl), λ (i, e, p). ap s p ∙ e)
after_iff a s (b ∷ w) t = Iff.trans (after_iff a (moved a s b) w t) (forth, back)
  where
    forth : Comes a (moved a s b) w t → Comes a s (b ∷ w) t
    forth (k, e, m) = let (i, q, z) = (moved_iff a s b k).0 e in (i, q, (k, z, m))

    back : Comes a s (b ∷ w) t → Comes a (moved a s b) w t
    back (i, q, (k, z, m)) = (k, (moved_iff a s b k).1 (i, q, z), m)

-- Every record starts in state 0.
pub reached_iff : (a : Arcs) (w : Word) (t : ℕ) → (reached a w t ≡ true) ↔ Leads (used a) 0 w t
unfolding reached start
reached_iff a w t = Iff.trans (after_iff a start w t) (forth, λ m. (0, refl, m))
  where
    forth : Comes a start w t → Leads (used a) 0 w t
    forth (i, e, m) = subst (λ (j : ℕ). Leads (used a) j w t) (eqb-true i 0 e) m
