-- The words that hold a bit per state, and the test of the work columns' lengths.
use Prim.Native.Nat.{ℕ, ◌+◌, ◌*◌, ◌≤◌, ◌<◌}
use native.Mathlib.Omega.{arith}
use mathlib.Core.Path.{◌≡◌, refl}
use mathlib.Core.Bool.{true}
use mathlib.Core.Logic.{◌↔◌, inl, inr, ⊎_elim}
use lib.ListN.{length}
use lib.Dec.{ltb}
use borrow.Author.Tests.{ltb-true, lt-ltb}
use Rattle.theory.specs.Record.{Work, words, short}
use Rattle.theory.proofs.Tests.{or_true, or_of}
use Rattle.promises.specs.Matcher.{TooShort, current, next}
use Rattle.promises.specs.Words.{WordsAre}

words_enough : (n : ℕ) → n ≤ 64 * words n
words_enough n = omega arith

words_least : (n : ℕ) → 64 * words n < n + 64
words_least n = omega arith

-- Fewer words than that is fewer bits than states.
fewer : (n k : ℕ) → k < words n → 64 * k < n
fewer n k l = let m = words_least n in omega arith

fewer_of : (n k : ℕ) → 64 * k < n → k < words n
fewer_of n k l = let m = words_enough n in omega arith

pub short_is : (k : Work) (n : ℕ) → (short k n ≡ true) ↔ TooShort k n
unfolding short
short_is k n = (
  λ e. ⊎_elim (λ l. current (fewer n _ (ltb-true _ _ l))) (λ l. next (fewer n _ (ltb-true _ _ l))) (or_true (ltb (length k.current) (words n)) _ e),
  found,
)
  where
    found : TooShort k n → short k n ≡ true
    found (current l) = or_of (ltb (length k.current) (words n)) (ltb (length k.next) (words n)) (inl (lt-ltb _ _ (fewer_of n _ l)))
    found (next l) = or_of (ltb (length k.current) (words n)) (ltb (length k.next) (words n)) (inr (lt-ltb _ _ (fewer_of n _ l)))

pub words_are : WordsAre
words_are = record { enough = words_enough; least = words_least; of_1 = refl; of_64 = refl; of_65 = refl; of_512 = refl; tested = short_is }
