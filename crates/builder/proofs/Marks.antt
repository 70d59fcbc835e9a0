-- A set of letters as marks, one for each byte value: what is marked after some entries of a table.
use Prim.Native.Nat.{ℕ, ◌+◌, ◌≤◌, ◌<◌}
use native.Mathlib.Nat.{le_antisymm}
use native.Mathlib.Decide.{ℕ_discrete}
use native.Mathlib.Omega.{arith}
use mathlib.Core.Path.{◌≡◌, refl, sym, ap, ap₂, ◌∙◌, subst}
use mathlib.Core.Bool.{Bool, true, false, ◌&&◌, ◌||◌}
use mathlib.Core.List.{List}
use lib.ListN.{length, get_or, set, replicate, length-set, length-replicate, get_or-replicate}
use lib.Seq.{get_or-set_same, get_or-set_other}
use lib.Dec.{eqb}
use borrow.Author.Tests.{eq-eqb, ne_eqb}
use Rattle.theory.specs.Kind as Kind
use Rattle.theory.specs.Below.{some_below}
use Rattle.theory.proofs.Below.{some_more}
use Rattle.builder.specs.Letters.{used, uses, Gathers}

-- Entry j is the letter a.
abbrev is_letter : List ℕ → List ℕ → ℕ → ℕ → Bool
is_letter kind left a j = eqb (get_or kind j 0) Kind.letter && eqb (get_or left j 0) a

-- The letters of the first i entries are marked.
pub record Marked (kind left : List ℕ) (marks : List Bool) (i : ℕ) : Type 0 where
  pub all : length marks ≡ 256
  pub so_far : (a : ℕ) → a < 256 → get_or marks a false ≡ some_below i (is_letter kind left a)

pub marked_none : (kind left : List ℕ) → Marked kind left (replicate 256 false) 0
unfolding some_below
marked_none kind left = record { all = length-replicate 256 false; so_far = λ a l. get_or-replicate 256 a false false l }

or_none : (b : Bool) → b ≡ (b || false)
or_none true = refl
or_none false = refl

or_all : (b : Bool) → true ≡ (b || true)
or_all true = refl
or_all false = refl

module _ {kind left : List ℕ} {marks : List Bool} {i : ℕ} (m : Marked kind left marks i) where
  -- One entry more.
  more : (marks' : List Bool) → length marks' ≡ length marks
      → ((a : ℕ) → a < 256 → get_or marks' a false ≡ (some_below i (is_letter kind left a) || is_letter kind left a i)) → Marked kind left marks' (i + 1)
  more marks' l h = record { all = l ∙ m.all; so_far = λ a b. h a b ∙ sym (some_more i (is_letter kind left a)) }

  -- An entry that is no letter below 256 marks nothing.
  same : ((a : ℕ) → a < 256 → is_letter kind left a i ≡ false) → Marked kind left marks (i + 1)
  same h =
      more marks refl
      (λ a l.
      let before = some_below i (is_letter kind left a) in
      m.so_far a l ∙ or_none before ∙ ap (λ (b : Bool). before || b) (sym (h a l)))

  pub marked_other : (get_or kind i 0 ≡ Kind.letter → ⊥) → Marked kind left marks (i + 1)
  marked_other n = same (λ a l. ap (λ (b : Bool). b && eqb (get_or left i 0) a) (ne_eqb (get_or kind i 0) Kind.letter n))

  pub marked_far : get_or kind i 0 ≡ Kind.letter → 256 ≤ get_or left i 0 → Marked kind left marks (i + 1)
  marked_far q h = same (λ a l. ap₂ ◌&&◌ (eq-eqb (get_or kind i 0) Kind.letter q) (ne_eqb (get_or left i 0) a (λ e. omega arith)))

  pub marked_letter : get_or kind i 0 ≡ Kind.letter → get_or left i 0 < 256 → Marked kind left (set marks (get_or left i 0) true) (i + 1)
  marked_letter q h = more marked (length-set marks b true) (λ a l. go a l (ℕ_discrete a b))
    where
      b : ℕ
      b = get_or left i 0

      marked : List Bool
      marked = set marks b true

      here : (a : ℕ) {yes : Bool} → eqb b a ≡ yes → is_letter kind left a i ≡ yes
      here a e = ap₂ ◌&&◌ (eq-eqb (get_or kind i 0) Kind.letter q) e

      go : (a : ℕ) → a < 256 → Dec (a ≡ b) → get_or marked a false ≡ (some_below i (is_letter kind left a) || is_letter kind left a i)
      go a l (yes e) =
          let before = some_below i (is_letter kind left a) in
          ap (λ (k : ℕ). get_or marked k false) e ∙ get_or-set_same marks b true false (subst (λ (k : ℕ). b < k) (sym m.all) h)
          ∙ or_all before ∙ ap (λ (d : Bool). before || d) (sym (here a (eq-eqb b a (sym e))))
      go a l (no n) =
          let before = some_below i (is_letter kind left a) in
          get_or-set_other marks b a true false n ∙ m.so_far a l
          ∙ or_none before ∙ ap (λ (d : Bool). before || d) (sym (here a (ne_eqb b a (λ e. n (sym e)))))

  pub marked_all : i ≤ length kind → length kind ≤ i → Gathers kind left (record { marks = marks })
  unfolding used uses
  marked_all below above a l = m.so_far a (omega arith) ∙ ap (λ (n : ℕ). some_below n (is_letter kind left a)) (le_antisymm below above)

pub marked_as : {kind left : List ℕ} {marks marks' : List Bool} {i : ℕ} → marks' ≡ marks → Marked kind left marks i → Marked kind left marks' i
marked_as {kind} {left} {i = i} e m = subst (λ u. Marked kind left u i) (sym e) m
