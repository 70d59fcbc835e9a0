-- The scan at a place of a text: what it answers at the text's end, and what one byte does to it, from wherever it stands.
-- The second part says of each stand which bytes lead on from it.
use Prim.Native.Nat.{ℕ, suc, ◌+◌, ◌≤◌, ◌<◌}
use native.Mathlib.Omega.{arith}
use native.Mathlib.Numerals.{add-one}
use mathlib.Core.Path.{◌≡◌, refl}
use mathlib.Core.Bool.{true, false}
use mathlib.Core.List.{List, [], ◌∷◌}
use mathlib.Core.Option.{none, some}
use lib.ListN.{length, drop, get_or, drop_of_length-le}
use lib.Seq.{drop-cons}
use borrow.Author.Tests.{lt-ltb, le-ltb}
use Rattle.theory.specs.Limit.{most_open}
use Rattle.theory.specs.Expression.{Expression, Sign, union, concatenation, shuffle, star, binary}
use Rattle.theory.specs.Refusal.{refusal, not_grammar, too_deep, too_many_entries}
use Rattle.theory.specs.Grammar.{Text, refused, byte_open, byte_close, byte_*, sign_byte, makes_entry}
use Rattle.theory.specs.Scan.{Token, opening, closing, starring, ∅_token, ε_token, other, signing, naming, token, Frame, opened, signed, Stand, before, after, next, open_at, finish, scan_from}
use Rattle.theory.proofs.Grammar.Bytes.{MadeOf, token_made_of}

-- ---- A step

module _ (room : ℕ) (text : Text) (p k : ℕ) (c : Stand) where
  pub at_end : length text ≤ p → scan_from room p k c (drop p text) ≡ finish p c
  unfolding scan_from
  at_end l = rw (drop_of_length-le text l)

  module _ (l : p < length text) where
    from_here : drop p text ≡ get_or text p 0 ∷ drop (p + 1) text
    from_here = rw add-one (drop-cons text p 0 l)

    pub at_broken : next c (token (get_or text p 0)) ≡ none → scan_from room p k c (drop p text) ≡ refused (refusal not_grammar p)
    unfolding scan_from
    at_broken e = rw (from_here, scan_from, e)

    module _ (c' : Stand) (e : next c (token (get_or text p 0)) ≡ some c') where
      pub at_deep : most_open < open_at c' → scan_from room p k c (drop p text) ≡ refused (refusal too_deep p)
      unfolding scan_from
      at_deep d = rw (from_here, scan_from, e, lt-ltb most_open (open_at c') d)

      module _ (d : open_at c' ≤ most_open) where
        pub at_many : makes_entry (get_or text p 0) ≡ true → room ≤ k → scan_from room p k c (drop p text) ≡ refused (refusal too_many_entries p)
        unfolding scan_from
        at_many m f = rw (from_here, scan_from, e, le-ltb most_open (open_at c') d, m, lt-ltb room (suc k) (omega arith))

        pub at_entry : makes_entry (get_or text p 0) ≡ true → k < room
            → scan_from room p k c (drop p text) ≡ scan_from room (p + 1) (k + 1) c' (drop (p + 1) text)
        unfolding scan_from
        at_entry m f =
            rw (from_here, scan_from, e, le-ltb most_open (open_at c') d, m, le-ltb room (suc k) (omega arith)) (rw (m, add-one p, add-one k))

        pub at_mark : makes_entry (get_or text p 0) ≡ false → k ≤ room → scan_from room p k c (drop p text) ≡ scan_from room (p + 1) k c' (drop (p + 1) text)
        unfolding scan_from
        at_mark m f = rw (from_here, scan_from, e, le-ltb most_open (open_at c') d, m, le-ltb room k f) (rw (m, add-one))

-- ---- Before an expression

pub before_opening : (fs : List Frame) (b : ℕ) → b ≡ byte_open → next (before fs) (token b) ≡ some (before (opened ∷ fs))
unfolding next token
before_opening fs b e = rw e

-- ---- After an expression

pub after_star : (x : Expression) (fs : List Frame) (b : ℕ) → b ≡ byte_* → next (after x fs) (token b) ≡ some (after (star x) fs)
unfolding next token
after_star x fs b e = rw e

pub after_sign : (x : Expression) (s : Sign) (fs : List Frame) (b : ℕ) → b ≡ sign_byte s
    → next (after x (opened ∷ fs)) (token b) ≡ some (before (signed x s ∷ fs))
unfolding next token sign_byte
after_sign x union fs b e = rw e
after_sign x concatenation fs b e = rw e
after_sign x shuffle fs b e = rw e

pub after_close : (x y : Expression) (s : Sign) (fs : List Frame) (b : ℕ) → b ≡ byte_close
    → next (after y (signed x s ∷ fs)) (token b) ≡ some (after (binary s x y) fs)
unfolding next token
after_close x y s fs b e = rw e

-- Where no `*` follows, only a sign or `)` leads on from after an expression, as the innermost parenthesis asks.
module _ (x : Expression) (fs : List Frame) (b : ℕ) (n : b ≡ byte_* → ⊥) where
  after_stuck : (b ≡ byte_close → next (after x fs) closing ≡ none) → ((s : Sign) → b ≡ sign_byte s → next (after x fs) (signing s) ≡ none)
      → next (after x fs) (token b) ≡ none
  unfolding next
  after_stuck unclosed unsigned = go (token b) (token_made_of b)
    where
      go : (k : Token) → MadeOf k b → next (after x fs) k ≡ none
      go opening m = refl
      go closing m = unclosed m
      go starring m = absurd (n m)
      go ∅_token m = refl
      go ε_token m = refl
      go other m = refl
      go (signing s) m = unsigned s m
      go (naming a) m = refl

pub after_all : (x : Expression) (b : ℕ) → (b ≡ byte_* → ⊥) → next (after x []) (token b) ≡ none
unfolding next
after_all x b n = after_stuck x [] b n (λ _. refl) (λ s _. refl)

pub after_unsigned : (x : Expression) (fs : List Frame) (b : ℕ) → (b ≡ byte_* → ⊥) → ((s : Sign) → b ≡ sign_byte s → ⊥)
    → next (after x (opened ∷ fs)) (token b) ≡ none
unfolding next
after_unsigned x fs b n h = after_stuck x (opened ∷ fs) b n (λ _. refl) (λ s m. absurd (h s m))

pub after_unclosed : (x y : Expression) (s : Sign) (fs : List Frame) (b : ℕ) → (b ≡ byte_* → ⊥) → (b ≡ byte_close → ⊥)
    → next (after y (signed x s ∷ fs)) (token b) ≡ none
unfolding next
after_unclosed x y s fs b n h = after_stuck y (signed x s ∷ fs) b n (λ m. absurd (h m)) (λ g _. refl)
