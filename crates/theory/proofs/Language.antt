-- The test for the empty word and the derivative are right for the languages of expressions (004's slide before Proposition 4). Each operator's
-- part is proved in its own file below; here they are put together.
use Prim.Native.Nat.{ℕ}
use mathlib.Core.Path.{◌≡◌, refl}
use mathlib.Core.Logic.Iff
use mathlib.Core.Logic.{◌↔◌}
use mathlib.Core.Bool.{true, false≢true}
use mathlib.Core.List.{[], ◌∷◌, Memᴰ, nil≢cons}
use Rattle.theory.specs.Expression.{Expression, ∅, ε, letter, binary, star, union, concatenation, shuffle}
use Rattle.theory.specs.Language.{Word, In, Shuffled}
use Rattle.theory.specs.Derivative.{empty_word, listed, derivative}
use Some.{⊎_iff}
use Together.{together_test}
use Step.{Derives, distinct_step}
use Leaf.{∅_step, ε_step, letter_step}
use Union.{or_true_iff, union_step}
use Concatenation.{Appended, appended_nil, concatenation_step}
use Shuffle.{shuffled_nil, shuffle_step}
use Star.{star_nil, star_step}
pub mod Some
pub mod Together
pub mod Joined
pub mod Step
pub mod Leaf
pub mod Union
pub mod Concatenation
pub mod Shuffle
pub mod Star

pub empty_word_right : (e : Expression) → (empty_word e ≡ true) ↔ In e []
unfolding empty_word
empty_word_right ∅ = (false≢true, absurd)
empty_word_right ε = (λ e. refl, λ e. refl)
empty_word_right (letter a) = (λ e. absurd (false≢true e), λ e. absurd (nil≢cons e))
empty_word_right (binary union x y) =
    Iff.trans (or_true_iff (empty_word x) (empty_word y)) (⊎_iff (empty_word_right x) (empty_word_right y))
empty_word_right (binary concatenation x y) =
    together_test Appended (In x) (In y) appended_nil (empty_word x) (empty_word y) (empty_word_right x) (empty_word_right y)
empty_word_right (binary shuffle x y) =
    together_test Shuffled (In x) (In y) shuffled_nil (empty_word x) (empty_word y) (empty_word_right x) (empty_word_right y)
empty_word_right (star x) = (λ e. star_nil x, λ s. refl)

-- Each of 01's lines for the list is right.
derives : (a : ℕ) (e : Expression) → Derives a (listed a e) e
unfolding listed
derives a ∅ = ∅_step a
derives a ε = ε_step a
derives a (letter b) = letter_step a b
derives a (binary union x y) = union_step (derives a x) (derives a y)
derives a (binary concatenation x y) = concatenation_step (empty_word x) (empty_word_right x) (derives a x) (derives a y)
derives a (binary shuffle x y) = shuffle_step (derives a x) (derives a y)
derives a (star x) = star_step (derives a x)

-- The language of the derivative by a is the words w with aw in the language.
pub derivative_right : (a : ℕ) (e : Expression) (w : Word) → ((m : Expression) × Memᴰ m (derivative a e) × In m w) ↔ In e (a ∷ w)
unfolding derivative
derivative_right a e = (distinct_step (derives a e)).words
