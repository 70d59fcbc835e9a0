-- What a turn takes, and what it leaves of the answers before it.
use Rattle.std.specs.Prelude.{ℕ, ◌+◌, ◌≤◌, ◌<◌, ◌≡◌, ◌⊎◌, length, Option, Result, Ok, Err}
use mathlib.Core.List.{List, [], ◌∷◌, ◌++◌, Memᴰ}
use Rattle.theory.specs.Lines.{newline}
use Rattle.lines.specs.declared.failure.Failure.{Failure}
use Rattle.lines.specs.declared.failure.Failure.TheVariants.{Read, Write}
use Rattle.lines.specs.declared.input.Line.{Line}
use Rattle.lines.specs.Input.{Input, Unbroken, Comes, TookWhole}
use Rattle.lines.specs.Output.{line_room}

-- Of what is held in a room of `size` bytes so much is left: nothing where the next line needs a read or might not fit, and else all of it.
pub record Left (input : Input) (size : ℕ) (held left : List ℕ) : Type 0 where
  pub shown : Unbroken input.untaken → left ≡ []
  pub full : size < length held + line_room → left ≡ []
  pub stays : Memᴰ newline input.untaken → length held + line_room ≤ size → left ≡ held
  pub whole : (left ≡ held) ⊎ (left ≡ [])
  pub room : length left + line_room ≤ size

-- A write is due: the next line needs a read, or it might not fit.
pub data Due (input : Input) (size : ℕ) (held : List ℕ) : Type 0 where
  before_a_read : Unbroken input.untaken → Due input size held
  for_room : size < length held + line_room → Due input size held

-- What `ask` owes. A write fails only where one is due, and then no line is taken.
abbrev pub Asks : Input → (size : ℕ) → List ℕ → Result (Option Line) Failure → Input → List ℕ → List ℕ → Type 0
Asks input size held (Ok line) input' column left = Left input size held left × TookWhole input (Ok line) input' column
Asks input size held (Err Read) input' column left = Left input size held left × TookWhole input (Err Read) input' column
Asks input size held (Err Write) input' column left = Due input size held × (input' ≡ input) × (left ≡ held)

-- The lines that were taken one after the other, from one place of the input to another.
pub data Lines (input : Input) : List (List ℕ) → Input → Type 0 where
  no_line : Lines input [] input
  one_more : {texts : List (List ℕ)} {between : Input} {text : List ℕ} {after : Input} → Lines input texts between → Comes between text after
      → Lines input (texts ++ text ∷ []) after
