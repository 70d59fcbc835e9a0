-- The executable reading of a text, a byte at a time with the open parentheses on a stack. The law `scan_reads` says that it is
-- the reading of `Grammar`.
use Rattle.std.specs.Prelude.{ℕ, suc, true, false, cond, List, [], ◌∷◌, length, eqb, ltb}
use Rattle.std.proofs.Math.Option.{Option, none, some}
use Rattle.theory.specs.Expression.{Expression, Sign, ∅, ε, letter, binary, star, union, concatenation, shuffle}
use Rattle.theory.specs.Limit.{most_open}
use Rattle.theory.specs.Refusal.{refusal, not_grammar, too_deep, too_many_entries}
use Rattle.theory.specs.Grammar.{Text, Reading, read, refused, byte_open, byte_close, byte_*, byte_+, byte_dot, byte_&, byte_0, byte_1, is_letter, makes_entry}

-- What a byte is in 01's grammar.
pub data Token : Type 0 where
  opening closing starring ∅_token ε_token other : Token
  signing : Sign → Token
  naming : ℕ → Token

unfoldable pub token : ℕ → Token
unfolding is_letter
token b =
    cond (eqb b byte_open) opening
    (cond (eqb b byte_close) closing
    (cond (eqb b byte_*) starring
    (cond (eqb b byte_0) ∅_token
    (cond (eqb b byte_1) ε_token
    (cond (eqb b byte_+) (signing union)
    (cond (eqb b byte_dot) (signing concatenation)
    (cond (eqb b byte_&) (signing shuffle)
    (cond (is_letter b) (naming b) other))))))))

-- An open parenthesis: nothing after it yet, or its left expression and its sign.
pub data Frame : Type 0 where
  opened : Frame
  signed : Expression → Sign → Frame

-- Where the reading stands, innermost parenthesis first: before an expression, after one, or after `0` alone.
pub data Stand : Type 0 where
  before : List Frame → Stand
  after : Expression → List Frame → Stand
  ended : Stand

unfoldable pub closed : Expression → List Frame → Option Stand
closed e [] = none
closed e (opened ∷ fs) = none
closed e (signed x s ∷ fs) = some (after (binary s x e) fs)

unfoldable pub sign_read : Expression → Sign → List Frame → Option Stand
sign_read e s [] = none
sign_read e s (opened ∷ fs) = some (before (signed e s ∷ fs))
sign_read e s (signed x s' ∷ fs) = none

-- `0` stands only where nothing was read before it.
unfoldable pub ∅_read : List Frame → Option Stand
∅_read [] = some ended
∅_read (f ∷ fs) = none

unfoldable pub next : Stand → Token → Option Stand
unfolding closed sign_read ∅_read
next (before fs) opening = some (before (opened ∷ fs))
next (before fs) closing = none
next (before fs) starring = none
next (before fs) ∅_token = ∅_read fs
next (before fs) ε_token = some (after ε fs)
next (before fs) other = none
next (before fs) (signing s) = none
next (before fs) (naming a) = some (after (letter a) fs)
next (after e fs) opening = none
next (after e fs) closing = closed e fs
next (after e fs) starring = some (after (star e) fs)
next (after e fs) ∅_token = none
next (after e fs) ε_token = none
next (after e fs) other = none
next (after e fs) (signing s) = sign_read e s fs
next (after e fs) (naming a) = none
next ended k = none

unfoldable pub open_at : Stand → ℕ
open_at (before fs) = length fs
open_at (after e fs) = length fs
open_at ended = 0

-- The text's end: 01, "or the text's length if it stops early".
unfoldable pub finish : ℕ → Stand → Reading
finish p (before fs) = refused (refusal not_grammar p)
finish p (after e []) = read e
finish p (after e (f ∷ fs)) = refused (refusal not_grammar p)
finish p ended = read ∅

-- From byte p on, with k entries made before it.
unfoldable pub scan_from : ℕ → ℕ → ℕ → Stand → Text → Reading
unfolding next token open_at finish makes_entry
scan_from room p k c [] = finish p c
scan_from room p k c (b ∷ t) =
    let k' = cond (makes_entry b) (suc k) k in
    elim (next c (token b)) [
      | none ↦ refused (refusal not_grammar p)
      | some c' ↦
          elim (ltb most_open (open_at c')) [
            | true ↦ refused (refusal too_deep p)
            | false ↦ elim (ltb room k') [ true ↦ refused (refusal too_many_entries p) | false ↦ scan_from room (suc p) k' c' t ]
          ]
    ]

unfoldable pub scan : ℕ → Text → Reading
unfolding scan_from
scan room t = scan_from room 0 0 (before []) t
