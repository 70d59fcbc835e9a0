-- A scan for the first fault, as a loop runs it: how it goes on, and the two ways in which it ends; and one scan after the other.
use Prim.Native.Nat.{ℕ, ◌+◌, ◌-◌, ◌≤◌, ◌<◌}
use native.Mathlib.Omega.{arith}
use mathlib.Core.Path.{◌≡◌, sym, ap, ◌∙◌}
use mathlib.Core.Bool.{Bool, cond}
use borrow.Author.Tests.{eq-eqb, ne_eqb}
use Rattle.std.specs.Prelude.{Result, Ok, Err}
use Rattle.theory.specs.Refusal.{Refusal as Wanted, refusal, success, or_else}
use Rattle.theory.specs.Stated.{stated, refusal_in}
use Rattle.theory.specs.Table.{first_fault}
use Rattle.theory.specs.declared.refusal.Refusal.{Refusal}
use Rattle.theory.proofs.FirstFault.{over, at_fault, at_end}
use Rattle.theory.proofs.TableRefusal.{refused_differ, refused_empty, refused_long, refused_later}
use Rattle.theory.proofs.Stated.{number_some}

-- The scan of all n entries is the scan of those from i on.
pub record Scanning (fault : ℕ → ℕ) (n i : ℕ) : Type 0 where
  pub within : i ≤ n
  pub left : first_fault fault 0 n ≡ first_fault fault i (n - i)

module _ (fault : ℕ → ℕ) (n : ℕ) where
  pub scan_over : (i : ℕ) → Scanning fault n i → i < n → fault i ≡ 0 → Scanning fault n (i + 1)
  scan_over i s l e = record { within = omega arith; left = s.left ∙ over fault i n l e }

  pub scan_found : (k i : ℕ) → Scanning fault n i → i < n → k ≡ fault i → (k ≡ 0 → ⊥) → refusal k i ≡ first_fault fault 0 n
  scan_found k i s l e no_zero = ap (λ (m : ℕ). refusal m i) e ∙ sym (s.left ∙ at_fault fault i n l (λ z. no_zero (e ∙ z)))

  pub scan_ends : (i : ℕ) → Scanning fault n i → n ≤ i → success ≡ first_fault fault 0 n
  scan_ends i s l = sym (s.left ∙ at_end fault i n l)

pub ruleset scan_laws = (scan_over, scan_found, scan_ends, number_some)

-- ---- One scan after the other

module _ {r : Result (Unit {0}) Refusal} {wanted : Wanted} (other : Wanted) (e : refusal_in r ≡ wanted) where
  pub first_stands : (found : Refusal) → r ≡ Err found → stated found ≡ or_else wanted other
  first_stands found q =
      let w : stated found ≡ wanted = sym (ap refusal_in q) ∙ e in
      let n = ne_eqb wanted.number 0 (λ z. number_some found.cause (ap (λ (v : Wanted). v.number) w ∙ z)) in
      w ∙ sym (ap (λ (b : Bool). cond b other wanted) n)

  pub second_stands : (v : Unit {0}) → r ≡ Ok v → other ≡ or_else wanted other
  second_stands v q =
      let z : wanted.number ≡ 0 = ap (λ (w : Wanted). w.number) (sym e ∙ ap refusal_in q) in
      sym (ap (λ (b : Bool). cond b other wanted) (eq-eqb wanted.number 0 z))

-- 01's order of the refusals.
pub ruleset order_laws = (refused_differ, refused_empty, refused_long, refused_later, first_stands, second_stands)
