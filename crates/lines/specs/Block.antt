-- What is put into a lent block, after its used bytes, and how much of it is used once it was written out.
use Rattle.std.specs.Prelude.{ℕ, ◌+◌, ◌≡◌, Bool, true, cond, List, ◌++◌, length, take, Result, Ok, Err}
use Rattle.lines.specs.declared.failure.Failure.{Failure}
use Rattle.lines.specs.declared.failure.Failure.TheVariants.{Read, Write}
use Rattle.lines.specs.declared.block.Room.{Room}
use Rattle.lines.specs.Output.{due}

-- The text stands after the first `used` bytes, which are as they were.
pub record Put (text before : List ℕ) (used : ℕ) (after : List ℕ) (used' : ℕ) : Type 0 where
  pub count : used' ≡ used + length text
  pub stands : take used' after ≡ take used before ++ text
  pub same_length : length after ≡ length before

-- Where a write is due, none of the block is used still, and else all that was.
abbrev pub left_of : (size used : ℕ) → Bool → ℕ
left_of size used waits = cond (due size used waits) 0 used

-- A write fails only where one is due.
abbrev pub Roomy : (size used : ℕ) → Bool → Result Room Failure → Type 0
Roomy size used waits (Ok room) = (room.used ≡ left_of size used waits) × (room.written + room.used ≡ used)
Roomy size used waits (Err Write) = due size used waits ≡ true
Roomy size used waits (Err Read) = ⊥
