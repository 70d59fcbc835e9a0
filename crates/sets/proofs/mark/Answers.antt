-- `mark` meets its contract: the one store sets the number's digit in its word.
use Rattle.std.proofs.Common.{ℕ, ◌≡◌, ◌*◌, ◌/◌, ◌%◌, ◌<◌, ap, ◌∙◌, arith}
use Prim.Native.Nat.{◌^◌}
use native.Mathlib.Nat.{one-mul, mod-eq_of_lt}
use lib.ListN.{get_or, set}
use lib.Bits.{bit_or}
use lib.Pow.{pow-lt}
use Rattle.sets.specs.Bits.{bit}
use Rattle.sets.proofs.Digits.{bit_mark}
use Rattle.sets.proofs.mark.Goals as goal

one_shifted : (k : ℕ) → k < 64 → 1 * 2 ^ k % 2 ^ 64 ≡ 2 ^ k
one_shifted k l = ap (λ (n : ℕ). n % 2 ^ 64) (one-mul (2 ^ k)) ∙ mod-eq_of_lt (pow-lt l)

pub returns : goal.returns
returns c = λ t.
    let words = c.args.words.now in
    let number = c.args.number in
    ap (λ (digit : ℕ). bit (set words (number / 64) (bit_or (get_or words (number / 64) 0) digit)) t) (one_shifted (number % 64) (omega arith))
    ∙ bit_mark words number c.requires t
