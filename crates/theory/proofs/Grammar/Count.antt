-- What a text has open is what its stand has open, and the entries that an expression's text makes are the expression's.
use Prim.Native.Nat.{ℕ, ◌+◌, ◌≤◌, ◌<◌}
use native.Mathlib.Nat.{zero-add, add-zero, lt_irrefl}
use native.Mathlib.Omega.{arith}
use mathlib.Core.Path.{◌≡◌, refl, sym}
use mathlib.Core.Bool.{Bool, true, false}
use mathlib.Core.List.{List, [], ◌∷◌, ◌++◌}
use mathlib.Core.Option.{some}
use lib.ListN.{length}
use lib.Dec.{T, eqb}
use Rattle.theory.specs.Expression.{Expression, Sign, union, concatenation, shuffle, ∅, ε, letter, binary, star, entries}
use Rattle.theory.specs.Table.{times}
use Rattle.theory.specs.Grammar.{Text, written, sign_byte, byte_open, byte_close, byte_+, byte_dot, byte_&, Inner, Writable, is_letter, depth, makes_entry, made}
use Rattle.theory.specs.Scan.{Stand, before, after, ended, Frame, opened, signed, open_at}
use Rattle.theory.proofs.Times.{cond_suc_add, times_append}
use Rattle.theory.proofs.Grammar.Bytes.{letter_not}
use Rattle.theory.proofs.Grammar.Run.{run, start}
use Rattle.theory.proofs.Grammar.Spell.{spell_frames, spell, InnerFrames, InnerStand, spelled}

pub made_append : (s t : Text) → made (s ++ t) ≡ made s + made t
unfolding made
made_append [] t = sym (zero-add (made t))
made_append (b ∷ s) t = rw (made_append s t, cond_suc_add)

-- ---- Parentheses

sign_not_open : (s : Sign) → eqb (sign_byte s) byte_open ≡ false
unfolding sign_byte
sign_not_open union = refl
sign_not_open concatenation = refl
sign_not_open shuffle = refl

sign_not_close : (s : Sign) → eqb (sign_byte s) byte_close ≡ false
unfolding sign_byte
sign_not_close union = refl
sign_not_close concatenation = refl
sign_not_close shuffle = refl

balanced : (e : Expression) → Inner e → times byte_open (written e) ≡ times byte_close (written e)
unfolding times written
balanced ∅ i = refl
balanced ε i = refl
balanced (letter a) i = simp (letter_not a i byte_open tt, letter_not a i byte_close tt)
balanced (binary s x y) i = simp (times_append, sign_not_open, sign_not_close) (omega (arith, balanced x i.0, balanced y i.1))
balanced (star x) i = simp times_append (omega (arith, balanced x i))

frames_open : (fs : List Frame) → InnerFrames fs → times byte_open (spell_frames fs) ≡ times byte_close (spell_frames fs) + length fs
unfolding times spell_frames
frames_open [] i = refl
frames_open (opened ∷ fs) i = simp times_append (omega (arith, frames_open fs i))
frames_open (signed x s ∷ fs) i =
    simp (times_append, sign_not_open, sign_not_close) (omega (arith, frames_open fs i.1, balanced x i.0))

stand_open : (c : Stand) → InnerStand c → times byte_open (spell c) ≡ times byte_close (spell c) + open_at c
unfolding times spell open_at
stand_open (before fs) i = frames_open fs i
stand_open (after e fs) i = simp times_append (omega (arith, frames_open fs i.1, balanced e i.0))
stand_open ended i = refl

-- The parentheses open after a text that the reading ran over are the stand's.
pub depth_run : (s : Text) (c : Stand) → run start s ≡ some c → depth s ≡ open_at c
unfolding depth
depth_run s c r = let h = spelled s c r in rw (← h.1) (omega (arith, stand_open c h.0))

-- ---- Entries

pub sign_makes_none : (s : Sign) → makes_entry (sign_byte s) ≡ false
unfolding makes_entry sign_byte
sign_makes_none union = refl
sign_makes_none concatenation = refl
sign_makes_none shuffle = refl

pub letter_makes : (a : ℕ) → T (is_letter a) → makes_entry a ≡ true
unfolding makes_entry
letter_makes a i = let no = letter_not a i in rw (no byte_open tt, no byte_+ tt, no byte_dot tt, no byte_& tt)

made_inner : (e : Expression) → Inner e → made (written e) ≡ entries e
unfolding made written entries
made_inner ∅ i = absurd i
made_inner ε i = refl
made_inner (letter a) i = rw (letter_makes a i)
made_inner (binary s x y) i = simp (made_append, sign_makes_none) (omega (arith, made_inner x i.0, made_inner y i.1))
made_inner (star x) i = simp made_append (omega (arith, made_inner x i))

pub made_written : (e : Expression) → Writable e → made (written e) ≡ entries e
unfolding made written entries
made_written ∅ w = refl
made_written ε w = made_inner ε w
made_written (letter a) w = made_inner (letter a) w
made_written (binary s x y) w = made_inner (binary s x y) w
made_written (star x) w = made_inner (star x) w

-- A byte that makes an entry is no `(`.
pub entry_not_deeper : (s : Text) (b : ℕ) → made s < made (s ++ b ∷ []) → depth (s ++ b ∷ []) ≤ depth s
unfolding depth made times
entry_not_deeper s b h = go (eqb b byte_open) refl
  where
    go : (o : Bool) → eqb b byte_open ≡ o → depth (s ++ b ∷ []) ≤ depth s
    go true e = absurd (lt_irrefl (made s) (simp (made_append, e, add-zero) at h))
    go false e = simp (times_append, e) (omega arith)
