-- How long the lines of a listing are.
use Prim.Native.Nat.{ℕ, ◌+◌, ◌≤◌, ◌<◌}
use native.Mathlib.Omega.{arith}
use mathlib.Core.Path.{◌≡◌}
use mathlib.Core.List.{List, [], ◌∷◌, ◌++◌}
use lib.ListN.{length, length-append}
use Rattle.theory.specs.Lines.{decimal, number_and}
use Rattle.lines.proofs.Decimal.{decimal_short}
use Rattle.lines.proofs.Putting.{put_length}
use Rattle.listing.specs.Listing.{state_bytes}

-- A number of at most three digits and a byte.
pub short_number : (n after : ℕ) → n < 1000 → length (number_and n after) ≤ state_bytes
short_number n after l = let d = decimal_short n 2 l in let m = length-append (decimal n) (after ∷ []) in omega arith

pub short_put : (before : List ℕ) (n after : ℕ) {whole : List ℕ} → n < 1000 → whole ≡ before ++ number_and n after
    → length whole ≤ length before + state_bytes
short_put before n after l e = let a = short_number n after l in let c = put_length before (number_and n after) e in omega arith
