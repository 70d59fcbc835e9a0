-- Between two turns of the records program.
use Prim.Native.Nat.{ℕ, ◌+◌}
use native.Mathlib.Omega.{arith}
use mathlib.Core.Path.{◌≡◌}
use mathlib.Core.List.{List}
use lib.ListN.{length}
use Rattle.theory.specs.Grammar.{Text}
use Rattle.theory.specs.Record.{Handed, work, words, LongEnough}
use Rattle.theory.specs.Rooms
use Rattle.site.specs.Sited.{Sited}
use Rattle.site.proofs.Judging.{few_states}
use Rattle.records.specs.Answer.{longest_record}

-- The columns keep their lengths.
pub record Going (column current next : List ℕ) : Type 0 where
  pub column_length : length column ≡ longest_record + 1
  pub current_length : length current ≡ words Rooms.states
  pub next_length : length next ≡ words Rooms.states

module _ {column current next : List ℕ} (g : Going column current next) where
  -- The work columns hold a bit for each state.
  pub long_enough : {text : Text} {h : Handed} → Sited text h → LongEnough (work current next) h.states
  long_enough x =
      let n = few_states x in
      record { current = let l = g.current_length in omega arith; next = let l = g.next_length in omega arith }
