-- The bytes that are an expression by themselves, and those that no expression begins with.
use Prim.Native.Nat.{ℕ}
use mathlib.Core.Path.{◌≡◌, refl, sym, ap, subst, ◌∙◌}
use mathlib.Core.Bool.{true, false}
use mathlib.Core.List.{List, [], ◌∷◌}
use mathlib.Core.Option.{none, some}
use lib.ListN.{length}
use lib.Dec.{T}
use Rattle.theory.specs.Expression.{Expression, ε, letter, entries}
use Rattle.theory.specs.Grammar.{byte_open, byte_0, byte_1, is_letter, makes_entry}
use Rattle.theory.specs.Scan.{Token, opening, closing, starring, ∅_token, ε_token, other, signing, naming, token, Frame, before, after, next}
use Rattle.theory.proofs.Grammar.Bytes.{MadeOf, token_made_of, token_letter}
use Rattle.theory.proofs.Grammar.Count.{letter_makes}
use Rattle.reader.specs.Found.{leaf_of}

pub leaf_next : (fs : List Frame) (k : Token) (e : Expression) → leaf_of k ≡ some e → next (before fs) k ≡ some (after e fs)
unfolding next leaf_of
leaf_next fs opening e h = cc
leaf_next fs closing e h = cc
leaf_next fs starring e h = cc
leaf_next fs ∅_token e h = cc
leaf_next fs ε_token e h = cc
leaf_next fs other e h = cc
leaf_next fs (signing s) e h = cc
leaf_next fs (naming a) e h = cc

pub leaf_none : (fs : List Frame) (b : ℕ) → leaf_of (token b) ≡ none → (b ≡ byte_open → ⊥) → (length fs ≡ 0 → b ≡ byte_0 → ⊥)
    → next (before fs) (token b) ≡ none
unfolding next leaf_of
leaf_none fs b h o z = go fs (token b) (token_made_of b) h z
  where
    go : (gs : List Frame) (k : Token) → MadeOf k b → leaf_of k ≡ none → (length gs ≡ 0 → b ≡ byte_0 → ⊥) → next (before gs) k ≡ none
    go gs opening m h z = absurd (o m)
    go gs closing m h z = refl
    go gs starring m h z = refl
    go [] ∅_token m h z = absurd (z refl m)
    go (f ∷ gs) ∅_token m h z = refl
    go gs ε_token m h z = cc
    go gs other m h z = refl
    go gs (signing s) m h z = refl
    go gs (naming a) m h z = cc

pub leaf_makes : (b : ℕ) (e : Expression) → leaf_of (token b) ≡ some e → makes_entry b ≡ true
unfolding leaf_of makes_entry
leaf_makes b e h = go (token b) (token_made_of b) h
  where
    go : (k : Token) → MadeOf k b → leaf_of k ≡ some e → makes_entry b ≡ true
    go opening m h = cc
    go closing m h = cc
    go starring m h = cc
    go ∅_token m h = cc
    go ε_token m h = rw m
    go other m h = cc
    go (signing s) m h = cc
    go (naming a) m h = rw m.0 (letter_makes a m.1)

pub leaf_entries : (k : Token) (e : Expression) → leaf_of k ≡ some e → entries e ≡ 1
unfolding leaf_of entries
leaf_entries k e h = go k h
  where
    go : (k : Token) → leaf_of k ≡ some e → entries e ≡ 1
    go opening h = cc
    go closing h = cc
    go starring h = cc
    go ∅_token h = cc
    go ε_token h = cc
    go other h = cc
    go (signing s) h = cc
    go (naming a) h = cc

-- ---- Which bytes they are

pub leaf_ε : (b : ℕ) → b ≡ byte_1 → leaf_of (token b) ≡ some ε
unfolding leaf_of token
leaf_ε b e = rw e

pub leaf_letter : (b : ℕ) → is_letter b ≡ true → leaf_of (token b) ≡ some (letter b)
unfolding leaf_of
leaf_letter b e = rw (token_letter b (subst T (sym e) tt))

pub leaf_other : (b : ℕ) → (b ≡ byte_1 → ⊥) → is_letter b ≡ false → leaf_of (token b) ≡ none
unfolding leaf_of
leaf_other b n e = go (token b) (token_made_of b)
  where
    go : (k : Token) → MadeOf k b → leaf_of k ≡ none
    go opening m = refl
    go closing m = refl
    go starring m = refl
    go ∅_token m = refl
    go ε_token m = absurd (n m)
    go other m = refl
    go (signing s) m = refl
    go (naming a) m = absurd (subst T (ap is_letter (sym m.0) ∙ e) m.1)
