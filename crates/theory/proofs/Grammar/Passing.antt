-- Passing goes on by one byte, and a start of a text that passes is viable, shallow and fits.
use Prim.Native.Nat.{ℕ, zero, suc, ◌≤◌, zero-le}
use native.Mathlib.Decide.{dec_le}
use native.Mathlib.Omega.{arith}
use mathlib.Core.Path.{refl}
use mathlib.Core.List.{[], ◌∷◌, ◌++◌, append_assoc}
use lib.ListN.{length, take, length-append}
use lib.Seq.{take-append-le, take-append_seam, take_all}
use Rattle.theory.specs.Limit.{most_open}
use Rattle.theory.specs.Grammar.{Text, depth, made, Viable, Passed}
use Rattle.theory.specs.Scan.{before}
use Rattle.theory.proofs.Grammar.Run.{run}
use Rattle.theory.proofs.Grammar.Spell.{run_viable}
use Rattle.theory.proofs.Grammar.Count.{made_append}

pub passed_nil : (room : ℕ) → Passed room []
unfolding depth made run
passed_nil room = record { viable = run_viable [] (before []) refl; shallow = shallow; fits = zero-le }
  where
    shallow : (p : ℕ) → depth (take p []) ≤ most_open
    shallow zero = zero-le
    shallow (suc p) = zero-le

pub passed_on : (room : ℕ) (s : Text) (b : ℕ) → Passed room s
    → Viable (s ++ b ∷ []) → depth (s ++ b ∷ []) ≤ most_open → made (s ++ b ∷ []) ≤ room → Passed room (s ++ b ∷ [])
passed_on room s b h v d m = record { viable = v; shallow = λ p. shallow p (dec_le p (length s)); fits = m }
  where
    shallow : (p : ℕ) → Dec (p ≤ length s) → depth (take p (s ++ b ∷ [])) ≤ most_open
    shallow p (yes l) = rw take-append-le (h.shallow p)
    shallow p (no n) = rw (take_all p (s ++ b ∷ []) (simp length-append (omega arith))) d

pub viable_start : (s t : Text) → Viable (s ++ t) → Viable s
viable_start s t v = (t ++ v.0, rw append_assoc at v.1)

pub shallow_start : (room : ℕ) (s t : Text) → Passed room (s ++ t) → depth s ≤ most_open
shallow_start room s t h = rw take-append_seam at (h.shallow (length s))

pub fits_start : (room : ℕ) (s t : Text) → Passed room (s ++ t) → made s ≤ room
fits_start room s t h = omega (arith, h.fits, made_append s t)
