-- What a taken line is: the bytes that stood in the block, up to a newline; where they do not reach one, what a read put into the block after
-- them. What a read puts there is the source's to say.
use Rattle.std.specs.Prelude.{ℕ, ◌+◌, ◌<◌, ◌≤◌, ◌≡◌, Bool, true, false, ◌⊎◌, length, take, drop, Option, None, Some, Result, Ok, Err}
use mathlib.Core.List.{List, [], ◌∷◌, ◌++◌, Memᴰ}
use Rattle.std.proofs.Math.Seq.{slice}
use Rattle.theory.specs.Lines.{newline}
use Rattle.lines.specs.declared.failure.Failure.{Failure}
use Rattle.lines.specs.declared.failure.Failure.TheVariants.{Read, Write}
use Rattle.lines.specs.declared.input.Line.{Line}
use Rattle.lines.specs.declared.input.Line.TheVariants.{Ended, Full}

-- What the code's input holds: the bytes of its block that are taken, those that are read and not yet taken, and those after them.
pub record Input : Type 0 where
  pub taken : List ℕ
  pub untaken : List ℕ
  pub spare : List ℕ

-- Of a block, where so many bytes are taken and so many are read.
abbrev pub input_of : (block : List ℕ) (at end : ℕ) → Input
input_of block at end = record { taken = take at block; untaken = slice at end block; spare = drop end block }

-- Nothing is read yet.
pub record Starts (input : Input) : Type 0 where
  pub taken : input.taken ≡ []
  pub untaken : input.untaken ≡ []

-- The bytes that a call took, and where it leaves the input: what was untaken, and after it what came by reads, is what was taken, and after it
-- what is untaken now. Nothing comes, and the block and its end stay as they are, unless more is taken than stood there.
pub record Taken (input : Input) (bytes : List ℕ) (input' : Input) : Type 0 where
  pub came : List ℕ
  pub all : input.untaken ++ came ≡ bytes ++ input'.untaken
  pub asked : ((came ≡ []) × (input'.taken ≡ input.taken ++ bytes) × (input'.spare ≡ input.spare)) ⊎ (length input.untaken < length bytes)

abbrev pub Unbroken : List ℕ → Type 0
Unbroken bytes = Memᴰ newline bytes → ⊥

-- No newline stands among the bytes that are not taken yet, or one does.
abbrev pub Waits : Input → Bool → Type 0
Waits input true = Unbroken input.untaken
Waits input false = Memᴰ newline input.untaken

-- The bytes up to the next newline, which is taken too.
abbrev pub ToNewline : Input → List ℕ → Input → Type 0
ToNewline input bytes input' = Unbroken bytes × Taken input (bytes ++ (newline ∷ [])) input'

-- All bytes that are untaken or come, up to the end of the input.
abbrev pub ToEnd : Input → List ℕ → Input → Type 0
ToEnd input bytes input' = Unbroken bytes × ((came : List ℕ) × (input.untaken ++ came ≡ bytes)) × (input'.untaken ≡ [])

-- The bytes of the next line. 01: "A last line without newline counts if it has a byte".
abbrev pub Comes : Input → List ℕ → Input → Type 0
Comes input bytes input' = ToNewline input bytes input' ⊎ ((0 < length bytes) × ToEnd input bytes input')

-- A line as it is stored in the column, where `Over` is said of one that fills it. A read fails only where no newline is left in the block, and
-- then nothing is untaken: what was taken is not taken once more.
abbrev pub Holds : (Input → Type 0) → Input → Result (Option Line) Failure → Input → List ℕ → Type 0
Holds Over input (Ok None) input' column = (input.untaken ≡ []) × (input'.untaken ≡ [])
Holds Over input (Ok (Some (Ended n))) input' column = (n < length column) × Comes input (take n column) input'
Holds Over input (Ok (Some Full)) input' column = Over input'
Holds Over input (Err Read) input' column = Unbroken input.untaken × (input'.untaken ≡ [])
Holds Over input (Err Write) input' column = ⊥

pub record Stores (Over : Input → Type 0) (input : Input) (line : Result (Option Line) Failure) (input' : Input) (column : List ℕ) : Type 0 where
  pub holds : Holds Over input line input' column

-- What `take_line` owes: of a line that fills the column no newline has come yet.
abbrev pub Took : Input → Result (Option Line) Failure → Input → List ℕ → Type 0
Took input line input' column = Stores (λ after. Unbroken column × Taken input column after) input line input' column

-- What `next_line` owes: of a line that fills the column more may have come, up to its end.
abbrev pub TookWhole : Input → Result (Option Line) Failure → Input → List ℕ → Type 0
TookWhole input line input' column = Stores (λ after. (more : List ℕ) × Comes input (column ++ more) after) input line input' column

-- The bytes of a line as it was taken. One that filled the column has more.
abbrev pub line_bytes : Option Line → List ℕ → List ℕ
line_bytes None column = []
line_bytes (Some (Ended n)) column = take n column
line_bytes (Some Full) column = column

-- A column of one byte more than a line may have: a line that ended is no longer than that, and one that fills the column is.
abbrev pub Within : ℕ → Option Line → Type 0
Within most None = Unit {0}
Within most (Some (Ended n)) = n ≤ most
Within most (Some Full) = Unit {0}

pub record Whole (most : ℕ) (line : Option Line) (column : List ℕ) : Type 0 where
  pub room : length column ≡ most + 1
  pub within : Within most line
