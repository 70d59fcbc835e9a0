-- One byte, arc by arc: the ends of the arcs passed so far that lead by it are set.
use Prim.Native.Nat.{ℕ, ◌+◌, ◌≤◌}
use native.Mathlib.Nat.{le_antisymm}
use mathlib.Core.Path.{◌≡◌, refl, sym, ap, ap₂, ◌∙◌, subst}
use mathlib.Core.Bool.{Bool, true, false, ◌||◌, or-false, or_assoc, false≢true}
use mathlib.Core.List.{List}
use lib.ListN.{length, get_or}
use lib.Dec.{eqb}
use borrow.Author.Tests.{eq-eqb, ne_eqb, eqb-true, eqb-false}
use Rattle.theory.specs.Below.{some_below}
use Rattle.theory.specs.Arcs.{ArcColumns, States, leaves, leads}
use Rattle.theory.proofs.Below.{some_more}
use Rattle.theory.proofs.Tests.{false_of}
use Rattle.theory.proofs.Arcs.{leaves_iff, leads_iff}
use Rattle.sets.specs.Bits.{bit}

-- ---- One arc

eqb_sym : (a b : ℕ) → eqb a b ≡ eqb b a
eqb_sym a b = go (eqb b a) refl
  where
    go : (d : Bool) → eqb b a ≡ d → eqb a b ≡ d
    go true e = eq-eqb a b (sym (eqb-true b a e))
    go false e = ne_eqb a b (λ q. eqb-false b a e (sym q))

module _ (c : ArcColumns) (s : States) (byte i : ℕ) where
  -- An arc that does not lead by the byte from a state of s leads nowhere.
  leads_none : ((get_or c.letter i 0 ≡ byte) × (s (get_or c.from i 0) ≡ true) → ⊥) → (t : ℕ) → leads c s byte t i ≡ false
  leads_none n t = false_of _ (λ e. n ((leaves_iff c s byte i).0 ((leads_iff c s byte i t).0 e).1))

  leads_set : (get_or c.letter i 0 ≡ byte) × (s (get_or c.from i 0) ≡ true) → (t : ℕ) → leads c s byte t i ≡ eqb t (get_or c.to i 0)
  unfolding leads
  leads_set h t = go (eqb (get_or c.to i 0) t) ∙ eqb_sym (get_or c.to i 0) t
    where
      go : (b : Bool) → elim b [ true ↦ leaves c s byte i | false ↦ false ] ≡ b
      go true = (leaves_iff c s byte i).1 h
      go false = refl

-- ---- The arcs below i

-- `next` has the bits of `next₀`, and those of the ends of the first i arcs that lead by the byte from a state of s.
pub record Spread (c : ArcColumns) (s : States) (byte : ℕ) (next₀ next : List ℕ) (i : ℕ) : Type 0 where
  pub same_length : length next ≡ length next₀
  pub set : (t : ℕ) → bit next t ≡ (bit next₀ t || some_below i (leads c s byte t))

module _ {c : ArcColumns} {s : States} {byte : ℕ} {next₀ : List ℕ} where
  pub spread_none : Spread c s byte next₀ next₀ 0
  unfolding some_below
  spread_none = record { same_length = refl; set = λ t. sym (or-false (bit next₀ t)) }

  module _ {next next' : List ℕ} {i : ℕ} (r : Spread c s byte next₀ next i) where
    -- An arc sets the bits of q.
    more : (q : ℕ → Bool) → length next' ≡ length next → ((t : ℕ) → bit next' t ≡ (bit next t || q t)) → ((t : ℕ) → leads c s byte t i ≡ q t)
        → Spread c s byte next₀ next' (i + 1)
    more q l h e = record {
      same_length = l ∙ r.same_length;
      set = λ t.
          h t ∙ ap₂ ◌||◌ (r.set t) (sym (e t)) ∙ or_assoc (bit next₀ t) (some_below i (leads c s byte t)) (leads c s byte t i)
          ∙ ap (λ (b : Bool). bit next₀ t || b) (sym (some_more i (leads c s byte t)));
    }

    -- An arc that leads nowhere sets none.
    none_more : next' ≡ next → ((t : ℕ) → leads c s byte t i ≡ false) → Spread c s byte next₀ next' (i + 1)
    none_more k e = more (λ t. false) (ap length k) (λ t. ap (λ (l : List ℕ). bit l t) k ∙ sym (or-false (bit next t))) e

    pub spread_other : next' ≡ next → (get_or c.letter i 0 ≡ byte → ⊥) → Spread c s byte next₀ next' (i + 1)
    spread_other k n = none_more k (leads_none c s byte i (λ (l, _). n l))

    pub spread_unset : next' ≡ next → s (get_or c.from i 0) ≡ false → Spread c s byte next₀ next' (i + 1)
    spread_unset k e = none_more k (leads_none c s byte i (λ (_, h). false≢true (sym e ∙ h)))

    pub spread_set : get_or c.letter i 0 ≡ byte → s (get_or c.from i 0) ≡ true
        → length next' ≡ length next → ((t : ℕ) → bit next' t ≡ (bit next t || eqb t (get_or c.to i 0)))
        → Spread c s byte next₀ next' (i + 1)
    spread_set l e k h = more (λ t. eqb t (get_or c.to i 0)) k h (leads_set c s byte i (l, e))

  pub spread_end : {next : List ℕ} {i n : ℕ} → Spread c s byte next₀ next i → i ≤ n → n ≤ i → Spread c s byte next₀ next n
  spread_end {next} r l m = subst (Spread c s byte next₀ next) (le_antisymm l m) r
