-- A row that can be w comes after w's children.
use Rattle.std.proofs.Common.{arith}
use native.Mathlib.Nat.{le_of_lt}
use Rattle.theory.proofs.Sound.{of_one, of_two}
use Rattle.derive.proofs.Reading.{parent_told}
use Rattle.derive.proofs.intern.search_start.Goals as goal

pub returns-in-One : goal.returns-in-One
returns-in-One c = λ i s. le_of_lt (of_one (parent_told s c.children.ensures c.in-One.is)).0

pub returns-in-Two : goal.returns-in-Two
returns-in-Two c = λ i s. let p = of_two (parent_told s c.children.ensures c.in-Two.is) in omega (arith, c.max.ensures, p.1, p.2)
