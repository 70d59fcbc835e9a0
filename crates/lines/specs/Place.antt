-- A line from a lent block, by the place from which on the block's bytes are not taken yet. Where there is no line, or a read failed, no place is
-- given back.
use Rattle.std.specs.Prelude.{ℕ, ◌≤◌, ◌<◌, ◌≡◌, cond, ◌⊎◌, length, take, eqb, Option, None, Some, Result, Ok, Err}
use mathlib.Core.List.{List, [], ◌∷◌, ◌++◌}
use Rattle.lines.specs.declared.failure.Failure.{Failure}
use Rattle.lines.specs.declared.failure.Failure.TheVariants.{Read, Write}
use Rattle.lines.specs.declared.input.Line.{Line}
use Rattle.lines.specs.declared.input.Line.TheVariants.{Ended, Full}
use Rattle.lines.specs.declared.place.Place.{Place}
use Rattle.lines.specs.Input.{Input, input_of, Taken, Unbroken, ToNewline, ToEnd, Comes}

-- The bytes that are not taken yet stand in the block.
pub record Inside (place : Place) (block : List ℕ) : Type 0 where
  pub ordered : place.at ≤ place.end
  pub within : place.end ≤ length block

-- What a block holds at a place.
abbrev pub standing : (block : List ℕ) → Place → Input
standing block place = input_of block place.at place.end

-- How much of the block a read filled.
abbrev pub Fills : Result (Option ℕ) Failure → List ℕ → Type 0
Fills (Ok (Some end)) block = (0 < end) × (end ≤ length block)
Fills (Ok None) block = Unit {0}
Fills (Err Read) block = Unit {0}
Fills (Err Write) block = ⊥

abbrev pub Nexts : List ℕ → Place → Result (Option (ℕ × Place)) Failure → List ℕ → Type 0
Nexts block place (Ok (Some (b, place'))) block' = Inside place' block' × Taken (standing block place) (b ∷ []) (standing block' place')
Nexts block place (Ok None) block' = place.at ≡ place.end
Nexts block place (Err Read) block' = place.at ≡ place.end
Nexts block place (Err Write) block' = ⊥

-- A line as it is stored in the column, where `Over` is said of one that fills it. A read fails only where no newline is left in the block.
abbrev pub Holds : (Input → Type 0) → List ℕ → Place → Result (Option (Line × Place)) Failure → List ℕ → List ℕ → Type 0
Holds Over block place (Ok None) block' column = (standing block place).untaken ≡ []
Holds Over block place (Ok (Some (Ended n, place'))) block' column =
    (n < length column) × Inside place' block' × Comes (standing block place) (take n column) (standing block' place')
Holds Over block place (Ok (Some (Full, place'))) block' column = Inside place' block' × Over (standing block' place')
Holds Over block place (Err Read) block' column = Unbroken (standing block place).untaken
Holds Over block place (Err Write) block' column = ⊥

-- The answer where the input ends after n bytes of a line.
abbrev pub last : ℕ → Place → Option (Line × Place)
last n place = cond (eqb n 0) None (Some (Ended n, place))

pub record Stores (Over : Input → Type 0) (block : List ℕ) (place : Place) (line : Result (Option (Line × Place)) Failure) (block' column : List ℕ)
    : Type 0 where
  pub holds : Holds Over block place line block' column

-- What `take_line` owes: of a line that fills the column no newline has come yet.
abbrev pub Took : List ℕ → Place → Result (Option (Line × Place)) Failure → List ℕ → List ℕ → Type 0
Took block place line block' column = Stores (λ after. Unbroken column × Taken (standing block place) column after) block place line block' column

-- What `next_line` owes: of a line that fills the column more may have come, up to its end.
abbrev pub TookWhole : List ℕ → Place → Result (Option (Line × Place)) Failure → List ℕ → List ℕ → Type 0
TookWhole block place line block' column =
    Stores (λ after. (more : List ℕ) × Comes (standing block place) (column ++ more) after) block place line block' column

-- The rest of a line is passed over, with its newline. A read fails only where no newline is left in the block.
abbrev pub Passes : List ℕ → Place → Result Place Failure → List ℕ → Type 0
Passes block place (Ok place') block' =
    let before = standing block place in
    let after = standing block' place' in
    Inside place' block' × ((bytes : List ℕ) × (ToNewline before bytes after ⊎ ToEnd before bytes after))
Passes block place (Err Read) block' = Unbroken (standing block place).untaken
Passes block place (Err Write) block' = ⊥

-- ---- A line and the place after it, apart

abbrev pub line_of : Result (Option (Line × Place)) Failure → Result (Option Line) Failure
line_of (Ok (Some (line, place))) = Ok (Some line)
line_of (Ok None) = Ok None
line_of (Err f) = Err f

-- Where no place is given back, nothing is untaken.
abbrev pub place_of : Result (Option (Line × Place)) Failure → Place
place_of (Ok (Some (line, place))) = place
place_of (Ok None) = record { at = 0; end = 0 }
place_of (Err f) = record { at = 0; end = 0 }
