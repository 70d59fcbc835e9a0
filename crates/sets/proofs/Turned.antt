-- One set handed over to another, word by word: what the two columns hold on the way.
use Prim.Native.Nat.{ℕ, ◌+◌, ◌*◌, ◌/◌, ◌%◌, ◌^◌, ◌≤◌, ◌<◌}
use native.Mathlib.Decide.{ℕ_discrete}
use native.Mathlib.Omega.{arith}
use mathlib.Core.Path.{◌≡◌, refl, sym, ap, ap₂, ◌∙◌, subst}
use mathlib.Core.Bool.{Bool, true, false, cond, not, ◌||◌}
use mathlib.Core.List.{List}
use lib.ListN.{length, get_or, set, length-set}
use lib.Seq.{get_or-set_other}
use lib.Dec.{eqb, ltb}
use borrow.Author.Tests.{lt-ltb, le-ltb, ltb-true, ltb-false}
use Rattle.theory.specs.Below.{some_below}
use Rattle.sets.specs.Bits.{digit, bit}
use Rattle.sets.proofs.Digits.{bit_here, bit_away, digit_zero, some_block}

-- The first i words of `next₀` stand in `current`, and are cleared in `next`; `any` says whether one of their bits was set.
pub record Turned (current₀ next₀ current next : List ℕ) (any : Bool) (i : ℕ) : Type 0 where
  pub current_length : length current ≡ length current₀
  pub next_length : length next ≡ length next₀
  pub handed : (t : ℕ) → bit current t ≡ cond (ltb (t / 64) i) (bit next₀ t) (bit current₀ t)
  pub cleared : (t : ℕ) → bit next t ≡ cond (ltb (t / 64) i) false (bit next₀ t)
  pub ahead : (k : ℕ) → i ≤ k → get_or next k 0 ≡ get_or next₀ k 0
  pub set_so_far : any ≡ some_below (i * 64) (bit next₀)

pub turned_none : (current next : List ℕ) → Turned current next current next false 0
unfolding some_below
turned_none current next =
    record {
      current_length = refl;
      next_length = refl;
      handed = λ t. ap (λ (b : Bool). cond b (bit next t) (bit current t)) (sym (le-ltb (t / 64) 0 (omega arith)));
      cleared = λ t. ap (λ (b : Bool). cond b false (bit next t)) (sym (le-ltb (t / 64) 0 (omega arith)));
      ahead = λ k _. refl;
      set_so_far = refl;
    }

-- A store at word i of a column of which the words below i hold q, and the others what `rest` holds.
store : (rest column : List ℕ) (i v : ℕ) (q : ℕ → Bool) → i < length column
    → ((t : ℕ) → bit column t ≡ cond (ltb (t / 64) i) (q t) (bit rest t))
    → ((t : ℕ) → t / 64 ≡ i → digit v (t % 64) ≡ q t)
    → (t : ℕ) → bit (set column i v) t ≡ cond (ltb (t / 64) (i + 1)) (q t) (bit rest t)
store rest column i v q l h e t = go (ℕ_discrete (t / 64) i)
  where
    chosen : (b : Bool) → ltb (t / 64) (i + 1) ≡ b → cond b (q t) (bit rest t) ≡ cond (ltb (t / 64) (i + 1)) (q t) (bit rest t)
    chosen b p = ap (λ (d : Bool). cond d (q t) (bit rest t)) (sym p)

    away : (b : Bool) → ltb (t / 64) i ≡ b → (t / 64 ≡ i → ⊥) → ltb (t / 64) (i + 1) ≡ b
    away true p n = let below = ltb-true (t / 64) i p in lt-ltb (t / 64) (i + 1) (omega arith)
    away false p n = let above = ltb-false (t / 64) i p in le-ltb (t / 64) (i + 1) (omega arith)

    go : Dec (t / 64 ≡ i) → bit (set column i v) t ≡ cond (ltb (t / 64) (i + 1)) (q t) (bit rest t)
    go (yes p) = bit_here column i v t l p ∙ e t p ∙ chosen true (lt-ltb (t / 64) (i + 1) (omega arith))
    go (no n) = bit_away column i v t n ∙ h t ∙ chosen (ltb (t / 64) i) (away (ltb (t / 64) i) refl n)

pub turned_more : {current₀ next₀ current next : List ℕ} {any : Bool} {i : ℕ}
    → Turned current₀ next₀ current next any i → i < length current → i < length next → get_or next i 0 < 2 ^ 64
    → Turned current₀ next₀ (set current i (get_or next i 0)) (set next i 0) (any || not (eqb (get_or next i 0) 0)) (i + 1)
unfolding bit
turned_more {current₀} {next₀} {current} {next} {any} {i} r lc ln small =
    let word : get_or next i 0 ≡ get_or next₀ i 0 = r.ahead i (omega arith) in
    record {
      current_length = length-set current i (get_or next i 0) ∙ r.current_length;
      next_length = length-set next i 0 ∙ r.next_length;
      handed =
          store current₀ current i (get_or next i 0) (bit next₀) lc r.handed
          (λ t p. ap (λ (w : ℕ). digit w (t % 64)) (word ∙ ap (λ (k : ℕ). get_or next₀ k 0) (sym p)));
      cleared = store next₀ next i 0 (λ t. false) ln r.cleared (λ t p. digit_zero (t % 64));
      ahead = λ k l. get_or-set_other next i k 0 0 (λ p. omega arith) ∙ r.ahead k (omega arith);
      set_so_far =
          ap₂ (λ (b : Bool) (w : ℕ). b || not (eqb w 0)) r.set_so_far word
          ∙ sym (some_block next₀ i (subst (λ (w : ℕ). w < 2 ^ 64) word small));
    }
