-- Each stand of the reading spells the text read so far, and some text completes it. So a text can go on to a whole expression
-- exactly when the reading runs over it.
use mathlib.Core.Path.{◌≡◌, refl}
use mathlib.Core.List.{List, [], ◌∷◌, ◌++◌, append_assoc, append-nil}
use mathlib.Core.Option.{Option, none, some}
use Prim.Native.Nat.{ℕ}
use native.Mathlib.Omega.{arith}
use Rattle.theory.specs.Expression.{Expression, union, ∅, ε, letter, binary, star}
use Rattle.theory.specs.Grammar.{Text, written, sign_byte, byte_open, byte_close, byte_+, byte_0, byte_1, Inner, Writable, Whole, Viable}
use Rattle.theory.specs.Scan.{Token, opening, closing, starring, ∅_token, ε_token, other, signing, naming, Stand, before, after, ended, Frame, opened, signed, next, token}
use Rattle.theory.proofs.Grammar.Bytes.{MadeOf, token_made_of}
use Rattle.theory.proofs.Grammar.Run.{step, run, start, run_append, run_none, run_whole, whole_stand}

-- ---- The text of a stand

-- Innermost parenthesis first, as the stand has them.
unfoldable pub spell_frames : List Frame → Text
unfolding written sign_byte
spell_frames [] = []
spell_frames (opened ∷ fs) = spell_frames fs ++ byte_open ∷ []
spell_frames (signed x s ∷ fs) = spell_frames fs ++ byte_open ∷ (written x ++ sign_byte s ∷ [])

unfoldable pub spell : Stand → Text
unfolding spell_frames
spell (before fs) = spell_frames fs
spell (after e fs) = spell_frames fs ++ written e
spell ended = byte_0 ∷ []

-- The expressions of a stand are of the grammar.
abbrev pub InnerFrames : List Frame → Type 0
InnerFrames [] = Unit {0}
InnerFrames (opened ∷ fs) = InnerFrames fs
InnerFrames (signed x s ∷ fs) = Inner x × InnerFrames fs

abbrev pub InnerStand : Stand → Type 0
InnerStand (before fs) = InnerFrames fs
InnerStand (after e fs) = Inner e × InnerFrames fs
InnerStand ended = Unit {0}

-- ---- The stand after a text spells it

-- `o` is no stand, or a good one that spells s.
abbrev Spells : Text → Option Stand → Type 0
Spells s none = Unit {0}
Spells s (some c) = InnerStand c × (spell c ≡ s)

next_spells : (c : Stand) (k : Token) (b : ℕ) → MadeOf k b → InnerStand c → Spells (spell c ++ b ∷ []) (next c k)
unfolding next spell written
next_spells (before fs) opening b m i = (i, rw m)
next_spells (before fs) closing b m i = tt
next_spells (before fs) starring b m i = tt
next_spells (before []) ∅_token b m i = (tt, rw m)
next_spells (before (f ∷ fs)) ∅_token b m i = tt
next_spells (before fs) ε_token b m i = ((tt, i), rw m)
next_spells (before fs) other b m i = tt
next_spells (before fs) (signing s) b m i = tt
next_spells (before fs) (naming a) b m i = ((m.1, i), rw m.0)
next_spells (after e fs) opening b m i = tt
next_spells (after e []) closing b m i = tt
next_spells (after e (opened ∷ fs)) closing b m i = tt
next_spells (after e (signed x s ∷ fs)) closing b m i = (((i.1.0, i.0), i.1.1), rw m (simp append_assoc))
next_spells (after e fs) starring b m i = (i, rw m (simp append_assoc))
next_spells (after e fs) ∅_token b m i = tt
next_spells (after e fs) ε_token b m i = tt
next_spells (after e fs) other b m i = tt
next_spells (after e []) (signing s) b m i = tt
next_spells (after e (opened ∷ fs)) (signing s) b m i = (i, rw m (simp append_assoc))
next_spells (after e (signed x s ∷ fs)) (signing s') b m i = tt
next_spells (after e fs) (naming a) b m i = tt
next_spells ended k b m i = tt

step_spells : (o : Option Stand) (s : Text) (b : ℕ) → Spells s o → Spells (s ++ b ∷ []) (step o b)
unfolding step
step_spells none s b h = tt
step_spells (some c) s b h = rw (← h.1) (next_spells c (token b) b (token_made_of b) h.0)

run_spells : (o : Option Stand) (s t : Text) → Spells s o → Spells (s ++ t) (run o t)
unfolding run
run_spells o s [] h = rw append-nil h
run_spells o s (b ∷ t) h = rw append_assoc at (run_spells (step o b) (s ++ b ∷ []) t (step_spells o s b h))

-- The stand after a text has inner expressions only, and spells the text.
pub spelled : (s : Text) (c : Stand) → run start s ≡ some c → InnerStand c × (spell c ≡ s)
unfolding spell
spelled s c r = rw r at (run_spells start [] s (tt, refl))

-- ---- A text that completes a stand's

unfoldable closers : List Frame → Text
closers [] = []
closers (opened ∷ fs) = byte_+ ∷ byte_1 ∷ byte_close ∷ closers fs
closers (signed x s ∷ fs) = byte_close ∷ closers fs

pub inner_writable : (e : Expression) → Inner e → Writable e
inner_writable ∅ i = absurd i
inner_writable ε i = i
inner_writable (letter a) i = i
inner_writable (binary s x y) i = i
inner_writable (star x) i = i

whole_after : (e : Expression) (fs : List Frame) → Inner e → InnerFrames fs → Whole (spell_frames fs ++ written e ++ closers fs)
unfolding spell_frames written closers
whole_after e [] i is = (e, inner_writable e i, rw append-nil)
whole_after e (opened ∷ fs) i is = simp append_assoc (simp append_assoc at (whole_after (binary union e ε) fs (i, tt) is))
whole_after e (signed x s ∷ fs) i is = simp append_assoc (simp append_assoc at (whole_after (binary s x e) fs (is.0, i) is.1))

stand_viable : (c : Stand) → InnerStand c → Viable (spell c)
unfolding spell written
stand_viable (before fs) i = (byte_1 ∷ closers fs, simp append_assoc at (whole_after ε fs tt i))
stand_viable (after e fs) i = (closers fs, whole_after e fs i.0 i.1)
stand_viable ended i = ([], (∅, tt, refl))

pub run_viable : (s : Text) (c : Stand) → run start s ≡ some c → Viable s
run_viable s c r = let h = spelled s c r in rw h.1 at (stand_viable c h.0)

pub whole_run : {t : Text} (w : Whole t) → run start t ≡ some (whole_stand w.0)
whole_run w = rw w.2 at (run_whole w.0 w.1)

pub viable_run : (s : Text) → Viable s → (c : Stand) × (run start s ≡ some c)
viable_run s v = go (run start s) refl
  where
    go : (o : Option Stand) → run start s ≡ o → (c : Stand) × (run start s ≡ some c)
    go (some c) r = (c, r)
    go none r =
        let z : ◌≡◌ {A = ℕ} 0 1 = cc (whole_run v.1, run_append start s v.0, run_none v.0) in
        absurd (omega arith)

pub run_not_viable : (s : Text) → run start s ≡ none → ¬ (Viable s)
run_not_viable s r v = let here = (viable_run s v).1 in let z : ◌≡◌ {A = ℕ} 0 1 = cc in omega arith

pub not_viable_run : (s : Text) → ¬ (Viable s) → run start s ≡ none
not_viable_run s n = go (run start s) refl
  where
    go : (o : Option Stand) → run start s ≡ o → run start s ≡ none
    go none r = r
    go (some c) r = absurd (n (run_viable s c r))
