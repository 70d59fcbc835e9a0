-- What the scan answers is a reading of the text, refusals and places included.
use Prim.Native.Nat.{ℕ, suc, ◌<◌}
use native.Mathlib.Decide.{dec_lt}
use native.Mathlib.Omega.{arith}
use native.Mathlib.Numerals.{add-one}
use mathlib.Core.Path.{◌≡◌, refl}
use mathlib.Core.Logic.{inl, inr}
use mathlib.Core.List.{[], ◌∷◌, ◌++◌, append_assoc, append-nil}
use mathlib.Core.Option.{Option, none, some}
use lib.ListN.{length, take, length-append}
use lib.Seq.{take-append_seam, take-append-add}
use Rattle.theory.specs.Limit.{most_open}
use Rattle.theory.specs.Grammar.{Text, depth, made, Passed, Reads, whole, broken, stopped, deep, many}
use Rattle.theory.specs.Scan.{Stand, finish, scan_from}
use Rattle.theory.proofs.Grammar.Run.{run, start}
use Rattle.theory.proofs.Grammar.Spell.{run_viable, run_not_viable}
use Rattle.theory.proofs.Grammar.Passing.{passed_on}
use Rattle.theory.proofs.Grammar.Steps.{end_decides, step_broken, step_deep, step_many, step_on}

-- ---- At the text's end

finish_reads : (room : ℕ) (s : Text) (c : Stand) → run start s ≡ some c → Passed room s → Reads room s (finish (length s) c)
finish_reads room s c r p = elim (end_decides s c r (length s)) [
  | inl h ↦ rw h.1 (whole h.0.0 h.0.1 h.0.2 p)
  | inr h ↦ rw h.1 (stopped p h.0)
]

-- ---- At a byte

inside : (s : Text) (b : ℕ) (t : Text) → length s < length (s ++ b ∷ t)
inside s b t = simp length-append (omega arith)

through_byte : (s : Text) (b : ℕ) (t : Text) → take (suc (length s)) (s ++ b ∷ t) ≡ s ++ b ∷ []
through_byte s b t = rw add-one at (take-append-add s (b ∷ t) 1)

module _ (room : ℕ) (s : Text) (c : Stand) (r : run start s ≡ some c) (passed : Passed room s) (b : ℕ) (t : Text) where
  before_byte : Passed room (take (length s) (s ++ b ∷ t))
  before_byte = rw take-append_seam passed

  byte_reads : (o : Option Stand) → run start (s ++ b ∷ []) ≡ o → Dec (most_open < depth (s ++ b ∷ [])) → Dec (room < made (s ++ b ∷ []))
      → ((c' : Stand) → run start (s ++ b ∷ []) ≡ some c' → Passed room (s ++ b ∷ [])
      → Reads room (s ++ b ∷ t) (scan_from room (length (s ++ b ∷ [])) (made (s ++ b ∷ [])) c' t))
      → Reads room (s ++ b ∷ t) (scan_from room (length s) (made s) c (b ∷ t))
  byte_reads none e d m rest =
      rw (step_broken room s c r b t e) (broken (length s) (inside s b t) before_byte (rw through_byte (run_not_viable (s ++ b ∷ []) e)))
  byte_reads (some c') e (yes d) m rest =
      rw (step_deep room s c r b t c' e d) (deep (length s) (inside s b t) before_byte (rw through_byte (run_viable (s ++ b ∷ []) c' e)) (rw through_byte d))
  byte_reads (some c') e (no d) (yes m) rest =
      rw (step_many room s c r b t c' e (omega arith) m)
      (many (length s) (inside s b t) before_byte (rw through_byte (run_viable (s ++ b ∷ []) c' e)) (rw through_byte m))
  byte_reads (some c') e (no d) (no m) rest =
      rw (step_on room s c r b t c' e (omega arith) (omega arith))
      (rest c' e (passed_on room s b passed (run_viable (s ++ b ∷ []) c' e) (omega arith) (omega arith)))

-- From after any start that passes.
pub scan_from_reads : (room : ℕ) (t s : Text) (c : Stand) → run start s ≡ some c → Passed room s
    → Reads room (s ++ t) (scan_from room (length s) (made s) c t)
unfolding scan_from
scan_from_reads room [] s c r p = rw append-nil (finish_reads room s c r p)
scan_from_reads room (b ∷ t) s c r p =
    byte_reads room s c r p b t (run start (s ++ b ∷ [])) refl (dec_lt most_open (depth (s ++ b ∷ []))) (dec_lt room (made (s ++ b ∷ [])))
    (λ c' r' p'. rw append_assoc at (scan_from_reads room t (s ++ b ∷ []) c' r' p'))
