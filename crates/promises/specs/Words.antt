-- 01, "Reading a record": "the state count divided by 64, rounded up", as the number of 64-bit words that hold one bit per state.
use Rattle.std.specs.Prelude.{ℕ, ◌+◌, ◌*◌, ◌≤◌, ◌<◌, ◌≡◌, true, ◌↔◌}
use Rattle.theory.specs.Record.{Work, words, short}
use Rattle.promises.specs.Matcher.{TooShort}

pub record WordsAre : Type 0 where
  -- So many words have a bit for each of n states, and no whole word is left over.
  pub enough : (n : ℕ) → n ≤ 64 * words n
  pub least : (n : ℕ) → 64 * words n < n + 64
  pub of_1 : words 1 ≡ 1
  pub of_64 : words 64 ≡ 1
  pub of_65 : words 65 ≡ 2
  pub of_512 : words 512 ≡ 8
  -- The matcher's test finds the columns whose bits are fewer than the states.
  pub tested : (k : Work) (n : ℕ) → (short k n ≡ true) ↔ TooShort k n
