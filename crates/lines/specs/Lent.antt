-- What a turn over lent blocks takes, and how much of the block of answers it leaves used.
use Rattle.std.specs.Prelude.{ℕ, ◌+◌, ◌≤◌, ◌<◌, ◌≡◌, ◌⊎◌, Option, Result, Ok, Err}
use mathlib.Core.List.{List, Memᴰ}
use Rattle.theory.specs.Lines.{newline}
use Rattle.lines.specs.declared.failure.Failure.{Failure}
use Rattle.lines.specs.declared.failure.Failure.TheVariants.{Read, Write}
use Rattle.lines.specs.declared.input.Line.{Line}
use Rattle.lines.specs.declared.place.Place.{Place}
use Rattle.lines.specs.Input.{Input, Unbroken}
use Rattle.lines.specs.Output.{line_room}
use Rattle.lines.specs.Place.{standing, TookWhole}

-- Of a block of `size` bytes so many are used still: none where the next line needs a read or might not fit, and else all that were.
pub record Left (input : Input) (size used left : ℕ) : Type 0 where
  pub shown : Unbroken input.untaken → left ≡ 0
  pub full : size < used + line_room → left ≡ 0
  pub stays : Memᴰ newline input.untaken → used + line_room ≤ size → left ≡ used
  pub whole : (left ≡ used) ⊎ (left ≡ 0)
  pub room : left + line_room ≤ size

-- A write is due: the next line needs a read, or it might not fit.
pub data Due (input : Input) (size used : ℕ) : Type 0 where
  before_a_read : Unbroken input.untaken → Due input size used
  for_room : size < used + line_room → Due input size used

-- What `ask_at` owes. A write fails only where one is due, and then no line is taken.
abbrev pub Asks : List ℕ → Place → (size used : ℕ) → Result (Result (Option (Line × Place)) Failure × ℕ) Failure → List ℕ → List ℕ → Type 0
Asks taken place size used (Ok (line, left)) taken' column = Left (standing taken place) size used left × TookWhole taken place line taken' column
Asks taken place size used (Err Write) taken' column = Due (standing taken place) size used × (taken' ≡ taken)
Asks taken place size used (Err Read) taken' column = ⊥
