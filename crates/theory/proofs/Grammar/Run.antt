-- The reading as a fold of `next` over a text: the text of an expression leads from before it to after it.
use mathlib.Core.Path.{◌≡◌, refl}
use mathlib.Core.List.{List, [], ◌∷◌, ◌++◌}
use mathlib.Core.Option.{Option, none, some}
use Prim.Native.Nat.{ℕ}
use Rattle.theory.specs.Expression.{Expression, Sign, union, concatenation, shuffle, ∅, ε, letter, binary, star}
use Rattle.theory.specs.Grammar.{Text, written, sign_byte, Inner, Writable, read}
use Rattle.theory.specs.Scan.{Stand, before, after, ended, Frame, opened, signed, next, token, finish}
use Rattle.theory.proofs.Grammar.Bytes.{token_letter}

unfoldable pub step : Option Stand → ℕ → Option Stand
unfolding next token
step none b = none
step (some c) b = next c (token b)

unfoldable pub run : Option Stand → Text → Option Stand
unfolding step
run o [] = o
run o (b ∷ t) = run (step o b) t

abbrev pub start : Option Stand
start = some (before [])

pub run_append : (o : Option Stand) (s t : Text) → run o (s ++ t) ≡ run (run o s) t
unfolding run
run_append o [] t = refl
run_append o (b ∷ s) t = run_append (step o b) s t

pub run_none : (t : Text) → run none t ≡ none
unfolding run
run_none [] = refl
run_none (b ∷ t) = run_none t

run_sign : (x : Expression) (s : Sign) (fs : List Frame) (t : Text)
    → run (some (after x (opened ∷ fs))) (sign_byte s ∷ t) ≡ run (some (before (signed x s ∷ fs))) t
unfolding run sign_byte
run_sign x union fs t = refl
run_sign x concatenation fs t = refl
run_sign x shuffle fs t = refl

-- The reading goes on from before an expression, over its text, to after it.
pub run_inner : (e : Expression) → Inner e → (fs : List Frame) → run (some (before fs)) (written e) ≡ some (after e fs)
unfolding run written
run_inner ∅ i fs = absurd i
run_inner ε i fs = refl
run_inner (letter a) i fs = rw (token_letter a i)
run_inner (binary s x y) i fs =
    rw (run_append, run_inner x i.0 (opened ∷ fs), run_sign, run_append, run_inner y i.1 (signed x s ∷ fs))
run_inner (star x) i fs = rw (run_append, run_inner x i fs)

-- Where the reading stands after a whole text.
unfoldable pub whole_stand : Expression → Stand
whole_stand ∅ = ended
whole_stand ε = after ε []
whole_stand (letter a) = after (letter a) []
whole_stand (binary s x y) = after (binary s x y) []
whole_stand (star x) = after (star x) []

pub run_whole : (e : Expression) → Writable e → run start (written e) ≡ some (whole_stand e)
unfolding run written whole_stand
run_whole ∅ w = refl
run_whole ε w = run_inner ε w []
run_whole (letter a) w = run_inner (letter a) w []
run_whole (binary s x y) w = run_inner (binary s x y) w []
run_whole (star x) w = run_inner (star x) w []

pub finish_whole : (p : ℕ) (e : Expression) → finish p (whole_stand e) ≡ read e
unfolding finish whole_stand
finish_whole p ∅ = refl
finish_whole p ε = refl
finish_whole p (letter a) = refl
finish_whole p (binary s x y) = refl
finish_whole p (star x) = refl
