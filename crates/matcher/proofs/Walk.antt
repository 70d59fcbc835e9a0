-- A record walked byte by byte: what the work columns hold at a place, how a byte goes on, and how the walk ends.
use Prim.Native.Nat.{ℕ, ◌+◌, ◌*◌, ◌/◌, ◌≤◌, ◌<◌}
use native.Mathlib.Omega.{arith}
use mathlib.Core.Path.{◌≡◌, refl, sym, ap, ◌∙◌, subst}
use mathlib.Core.Bool.{Bool, true, false, cond, ◌||◌}
use mathlib.Core.List.{List}
use lib.ListN.{length, get_or, take, drop}
use lib.Seq.{take_all}
use lib.Dec.{ltb}
use borrow.Author.Tests.{ltb-false}
use Rattle.theory.specs.Language.{Word}
use Rattle.theory.specs.Below.{some_below}
use Rattle.theory.specs.Arcs.{Arcs, States, start, moved, after, reached, leads_on, dead_at}
use Rattle.theory.specs.Record.{Work, words, LongEnough}
use Rattle.theory.proofs.Below.{some_cong}
use Rattle.theory.proofs.Reached.{moved_cong, moved_below, leads_on_moved, after_take, after_below, start_below, dead_later, dead_here, dead_never}
use Rattle.std.specs.Prelude.{Some, None}
use Rattle.sets.specs.Bits.{bit}
use Rattle.matcher.specs.Moves.{Checked, Ready, Ended}

-- ---- Work columns of the same lengths

module _ (k₀ k : Work) (current : length k.current ≡ length k₀.current) (next : length k.next ≡ length k₀.next) where
  pub long_enough : {n : ℕ} → LongEnough k₀ n → LongEnough k n
  long_enough h = record { current = rw current h.current; next = rw next h.next }

  -- Only the lengths of the columns are checked.
  pub checked_kept : {n : ℕ} {a : Arcs} → Checked n a k₀ → Checked n a k
  checked_kept h = record {
    some_state = h.some_state;
    few_states = h.few_states;
    spans = h.spans;
    from_below = h.from_below;
    to_below = h.to_below;
    enough = long_enough h.enough;
  }

-- ---- At a place

-- The states that the first p bytes reach.
abbrev pub so_far : Arcs → Word → ℕ → States
so_far a w p = after a start (take p w)

-- The first p bytes of w are walked: their states are set in `current`, `next` is clear, and no byte of them was dead.
pub record Walk (a : Arcs) (w : Word) (k : Work) (p : ℕ) : Type 0 where
  pub set : (t : ℕ) → bit k.current t ≡ so_far a w p t
  pub clear : (t : ℕ) → bit k.next t ≡ false
  pub rest : dead_at a start 0 w ≡ dead_at a (so_far a w p) p (drop p w)

pub walk_start : {a : Arcs} {w : Word} {k : Work} → Ready k → Walk a w k 0
unfolding after
walk_start r = record { set = r.started; clear = r.clear; rest = refl }

pub walk_at : {a : Arcs} {w : Word} {k : Work} {p q : ℕ} → p ≡ q → Walk a w k p → Walk a w k q
walk_at {a} {w} {k} e r = subst (Walk a w k) e r

pub walk_whole : {a : Arcs} {w : Word} {k : Work} {p : ℕ} → Walk a w k p → length w ≤ p → Ended a w None k.current
unfolding reached
walk_whole {a} {w} {p = p} r l = record {
  place = sym (r.rest ∙ dead_never a (so_far a w p) w p l);
  set = λ _ t. r.set t ∙ ap (λ (v : Word). after a start v t) (take_all p w l);
}

-- ---- One byte

-- `current` has the states that the byte b leads to from s, and `any` says whether it leads on.
pub record Turn (a : Arcs) (s : States) (b : ℕ) (k : Work) (any : Bool) : Type 0 where
  pub set : (t : ℕ) → bit k.current t ≡ moved a s b t
  pub clear : (t : ℕ) → bit k.next t ≡ false
  pub on : any ≡ leads_on a s b

module _ {n : ℕ} {a : Arcs} {w : Word} {k₀ k : Work} {p : ℕ} (h : Checked n a k₀) (r : Walk a w k p) where
  beyond : (t : ℕ) → n ≤ t → bit k.current t ≡ false
  beyond t l = r.set t ∙ after_below a h.to_below start (start_below n h.some_state) (take p w) t l

  -- The ends of the arcs that lead by the byte are set in `filled`, of which the first m words are then handed over.
  pub one_byte : {m : ℕ} → m ≡ words n → {b b' : ℕ} → b' ≡ b → (filled : List ℕ) {k' : Work} {any : Bool}
      → ((t : ℕ) → bit filled t ≡ (bit k.next t || moved a (bit k.current) b t))
      → ((t : ℕ) → bit k'.current t ≡ cond (ltb (t / 64) m) (bit filled t) (bit k.current t))
      → ((t : ℕ) → bit k'.next t ≡ cond (ltb (t / 64) m) false (bit filled t))
      → any ≡ some_below (m * 64) (bit filled)
      → Turn a (so_far a w p) b' k' any
  one_byte {m} many {b} {b'} same filled f c e s = record {
    set = λ t. c t ∙ choose t (ltb (t / 64) m) refl;
    clear = λ t. e t ∙ empty t (ltb (t / 64) m) refl;
    on =
        s ∙ some_cong (m * 64) (bit filled) (moved a (so_far a w p) b') (λ t _. set_there t)
        ∙ leads_on_moved a h.to_below (m * 64) (omega arith) (so_far a w p) b';
  }
    where
      set_there : (t : ℕ) → bit filled t ≡ moved a (so_far a w p) b' t
      set_there t =
          f t ∙ ap (λ (d : Bool). d || moved a (bit k.current) b t) (r.clear t) ∙ moved_cong a (bit k.current) (so_far a w p) r.set b t
          ∙ ap (λ (x : ℕ). moved a (so_far a w p) x t) (sym same)

      none_far : (t : ℕ) → n ≤ t → moved a (so_far a w p) b' t ≡ false
      none_far = moved_below a h.to_below (so_far a w p) b'

      far : (t : ℕ) → ltb (t / 64) m ≡ false → n ≤ t
      far t q = let l = ltb-false (t / 64) m q in omega arith

      choose : (t : ℕ) (d : Bool) → ltb (t / 64) m ≡ d → cond d (bit filled t) (bit k.current t) ≡ moved a (so_far a w p) b' t
      choose t true q = set_there t
      choose t false q = beyond t (far t q) ∙ sym (none_far t (far t q))

      empty : (t : ℕ) (d : Bool) → ltb (t / 64) m ≡ d → cond d false (bit filled t) ≡ false
      empty t true q = refl
      empty t false q = set_there t ∙ none_far t (far t q)

module _ {a : Arcs} {w : Word} {k k' : Work} {p : ℕ} {any : Bool} (r : Walk a w k p) (l : p < length w)
    (m : Turn a (so_far a w p) (get_or w p 0) k' any) where
  pub walk_more : any ≡ true → Walk a w k' (p + 1)
  walk_more e =
      let step = after_take a start w p l in
      record {
        set = λ t. m.set t ∙ sym (ap (λ (s : States). s t) step);
        clear = m.clear;
        rest =
            r.rest ∙ dead_later a (so_far a w p) w p l (sym m.on ∙ e)
            ∙ ap (λ (s : States). dead_at a s (p + 1) (drop (p + 1) w)) (sym step);
      }

  pub walk_dead : any ≡ false → Ended a w (Some p) k'.current
  walk_dead e = record {
    place = sym (r.rest ∙ dead_here a (so_far a w p) w p l (sym m.on ∙ e));
    set = λ q. absurd (let z : ◌≡◌ {A = ℕ} 0 1 = cc in omega arith);
  }
