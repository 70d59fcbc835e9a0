-- What the scan does after a text s that it ran over, told by s: at the text's end, and at a next byte b, which ends it or not.
use Prim.Native.Nat.{ℕ, suc, ◌+◌, ◌≤◌, ◌<◌}
use native.Mathlib.Omega.{arith}
use native.Mathlib.Numerals.{add-one}
use mathlib.Core.Path.{◌≡◌, refl}
use mathlib.Core.Logic.{◌⊎◌, inl, inr}
use mathlib.Core.Bool.{Bool, true, false, cond}
use mathlib.Core.List.{[], ◌∷◌, ◌++◌}
use mathlib.Core.Option.{Option, none, some}
use lib.ListN.{length, length-append}
use lib.Dec.{ltb}
use borrow.Author.Tests.{lt-ltb, le-ltb}
use Rattle.theory.specs.Limit.{most_open}
use Rattle.theory.specs.Expression.{∅}
use Rattle.theory.specs.Refusal.{Refusal, refusal, not_grammar, too_deep, too_many_entries}
use Rattle.theory.specs.Grammar.{Text, written, Whole, read, refused, makes_entry, depth, made}
use Rattle.theory.specs.Scan.{Stand, before, after, ended, next, token, open_at, finish, scan_from}
use Rattle.theory.proofs.Grammar.Run.{run, start, run_append, finish_whole}
use Rattle.theory.proofs.Grammar.Spell.{spell, spelled, inner_writable, whole_run}
use Rattle.theory.proofs.Grammar.Count.{made_append, depth_run}

-- ---- At the end

not_whole : (s : Text) (c : Stand) (q : Refusal) → run start s ≡ some c → finish 0 c ≡ refused q → ¬ (Whole s)
not_whole s c q r f w = let z : ◌≡◌ {A = ℕ} 0 1 = cc (whole_run w, finish_whole 0 w.0) in omega arith

-- The answer there is the expression that the text is, or a refusal and the text is none.
pub end_decides : (s : Text) (c : Stand) → run start s ≡ some c → (p : ℕ)
    → ((w : Whole s) × (finish p c ≡ read w.0)) ⊎ (¬ (Whole s) × (finish p c ≡ refused (refusal not_grammar p)))
unfolding finish written spell
end_decides s (before fs) r p = inr (not_whole s (before fs) (refusal not_grammar 0) r refl, refl)
end_decides s (after e []) r p = let h = spelled s (after e []) r in inl ((e, inner_writable e h.0.0, h.1), refl)
end_decides s (after e (f ∷ fs)) r p = inr (not_whole s (after e (f ∷ fs)) (refusal not_grammar 0) r refl, refl)
end_decides s ended r p = inl ((∅, tt, (spelled s ended r).1), refl)

-- ---- At a byte

made_on : (s : Text) (b : ℕ) → cond (makes_entry b) (suc (made s)) (made s) ≡ made (s ++ b ∷ [])
unfolding made
made_on s b = rw made_append (go (makes_entry b))
  where
    go : (h : Bool) → cond h (suc (made s)) (made s) ≡ made s + cond h 1 0
    go true = omega arith
    go false = omega arith

module _ (room : ℕ) (s : Text) (c : Stand) (r : run start s ≡ some c) (b : ℕ) (t : Text) where
  next_run : {o : Option Stand} → run start (s ++ b ∷ []) ≡ o → next c (token b) ≡ o
  unfolding run
  next_run e = rw (run_append, r) at e

  pub step_broken : run start (s ++ b ∷ []) ≡ none → scan_from room (length s) (made s) c (b ∷ t) ≡ refused (refusal not_grammar (length s))
  unfolding scan_from
  step_broken e = rw (next_run e, scan_from)

  module _ (c' : Stand) (r' : run start (s ++ b ∷ []) ≡ some c') where
    open_here : depth (s ++ b ∷ []) ≡ open_at c'
    open_here = depth_run (s ++ b ∷ []) c' r'

    pub step_deep : most_open < depth (s ++ b ∷ []) → scan_from room (length s) (made s) c (b ∷ t) ≡ refused (refusal too_deep (length s))
    unfolding scan_from
    step_deep d = rw (next_run r', lt-ltb most_open (open_at c') (rw open_here at d), scan_from)

    not_deep : depth (s ++ b ∷ []) ≤ most_open → ltb most_open (open_at c') ≡ false
    not_deep d = le-ltb most_open (open_at c') (rw open_here at d)

    pub step_many : depth (s ++ b ∷ []) ≤ most_open → room < made (s ++ b ∷ [])
        → scan_from room (length s) (made s) c (b ∷ t) ≡ refused (refusal too_many_entries (length s))
    unfolding scan_from
    step_many d m = rw (next_run r', not_deep d, made_on, lt-ltb room (made (s ++ b ∷ [])) m, scan_from)

    pub step_on : depth (s ++ b ∷ []) ≤ most_open → made (s ++ b ∷ []) ≤ room
        → scan_from room (length s) (made s) c (b ∷ t) ≡ scan_from room (length (s ++ b ∷ [])) (made (s ++ b ∷ [])) c' t
    unfolding scan_from
    step_on d m = rw (next_run r', not_deep d, made_on, le-ltb room (made (s ++ b ∷ [])) m, scan_from) (rw (made_on, length-append, add-one))
