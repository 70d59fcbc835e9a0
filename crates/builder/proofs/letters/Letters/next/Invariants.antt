-- No letter between `after` and the place of the search is marked.
use Rattle.std.proofs.Common.{◌≡◌, ℕ, ◌<◌, get_or, false}
use Rattle.builder.proofs.letters.Letters.next.Given as goal

abbrev pub invariant-loop-a : goal.invariant-loop-a
invariant-loop-a l = (l.after < l.a) × ((b : ℕ) → l.after < b → b < l.a → get_or l.marks b false ≡ false)
