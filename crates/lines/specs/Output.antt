-- The room that an output needs, and what is handed on to be written.
use Rattle.std.specs.Prelude.{ℕ, ◌+◌, ◌-◌, ◌≡◌, Bool, true, cond, ◌||◌, List, [], length, ltb, Result, Ok, Err}
use Rattle.lines.specs.declared.failure.Failure.{Failure}
use Rattle.lines.specs.declared.failure.Failure.TheVariants.{Read, Write}

-- A number of 64 bits and the byte after it.
abbrev pub number_room : ℕ
number_room = 21

-- No line of the records program and of the room report, and no refusal, is longer. The code has it as `LINE`.
abbrev pub line_room : ℕ
line_room = 128

-- So many bytes are said to be written, or that it failed.
abbrev pub Wrote : ℕ → Result ℕ Failure → Type 0
Wrote n (Ok count) = count ≡ n
Wrote n (Err Write) = Unit {0}
Wrote n (Err Read) = ⊥

-- All that was held was handed on, and is no longer held; or that failed, and it is held still.
abbrev pub WroteOut : List ℕ → Result ℕ Failure → List ℕ → Type 0
WroteOut held (Ok count) held' = (count ≡ length held) × (held' ≡ [])
WroteOut held (Err Write) held' = held' ≡ held
WroteOut held (Err Read) held' = ⊥

-- A write is due where a line might not fit after what is held, or the caller would wait. Then none of it is left, and else all of it.
abbrev pub due : (size used : ℕ) → Bool → Bool
due size used waits = waits || ltb (size - used) line_room

abbrev pub left_of : (size : ℕ) → List ℕ → Bool → List ℕ
left_of size held waits = cond (due size (length held) waits) [] held

abbrev pub Roomy : (size : ℕ) → List ℕ → Bool → Result ℕ Failure → List ℕ → Type 0
Roomy size held waits (Ok count) left = (left ≡ left_of size held waits) × (count + length left ≡ length held)
Roomy size held waits (Err Write) left = (due size (length held) waits ≡ true) × (left ≡ held)
Roomy size held waits (Err Read) left = ⊥

-- So many bytes are told of a failure.
abbrev pub told_length : Failure → ℕ
told_length Read = 29
told_length Write = 30
