-- A line taken to its end.
use Prim.Native.Nat.{ℕ, ◌<◌}
use native.Mathlib.Omega.{arith}
use mathlib.Core.Path.{◌≡◌, sym, ap, ◌∙◌, subst}
use mathlib.Core.Logic.{◌⊎◌, inl, inr}
use mathlib.Core.List.{List, [], ◌∷◌, ◌++◌, append_assoc}
use lib.ListN.{length, length-append}
use Rattle.std.specs.Prelude.{Option, Some, Ok, Err}
use Rattle.theory.specs.Lines.{newline}
use Rattle.lines.specs.declared.failure.Failure.{Failure}
use Rattle.lines.specs.declared.failure.Failure.TheVariants.{Read, Write}
use Rattle.lines.specs.declared.input.Line.{Line}
use Rattle.lines.specs.declared.input.Line.TheVariants.{Full}
use Rattle.lines.specs.declared.place.Place.{Place}
use Rattle.lines.specs.Input.{Input, Taken, Unbroken, ToNewline, ToEnd, Comes}
use Rattle.lines.specs.Place.{Took, TookWhole, Passes}
use Rattle.lines.proofs.Taking.{after, taken_then, unbroken_joined, unbroken_before}

whole_of : {input : Input} {column : List ℕ} {between : Input} {bytes : List ℕ} {end : Input} → 0 < length column → Unbroken column
    → Taken input column between → ToNewline between bytes end ⊎ ToEnd between bytes end → Comes input (column ++ bytes) end
whole_of {input} {column} {bytes = bytes} {end} l u t (inl p) =
    inl (
      unbroken_joined u p.0,
      subst (λ (x : List ℕ). Taken input x end) (sym (append_assoc column bytes (newline ∷ []))) (taken_then t p.1),
    )
whole_of {column = column} {bytes = bytes} l u t (inr p) =
    inr (omega (arith, length-append column bytes), (unbroken_joined u p.0, (_, after t p.1.0 p.1.1), p.2))

pub took_full : (block : List ℕ) (place : Place) (block' column : List ℕ) {r : Option (Line × Place)} {line : Line} {so_far : Place}
    → r ≡ Some (line, so_far) → line ≡ Full → Took block place (Ok r) block' column → Took block place (Ok (Some (Full, so_far))) block' column
took_full block place block' column {so_far = so_far} e l t =
    subst (λ (r : Option (Line × Place)). Took block place (Ok r) block' column) (e ∙ ap (λ (line : Line). Some (line, so_far)) l) t

module _ {block : List ℕ} {place : Place} {between column : List ℕ} {so_far : Place} (t : Took block place (Ok (Some (Full, so_far))) between column)
    {block' : List ℕ} where
  pub with_rest : {end : Place} → 0 < length column → Passes between so_far (Ok end) block'
      → TookWhole block place (Ok (Some (Full, end))) block' column
  with_rest l p = record { holds = (p.0, (p.1.0, whole_of l t.holds.1.0 t.holds.1.1 p.1.1)) }

  pub without_rest : (f : Failure) → Passes between so_far (Err f) block' → TookWhole block place (Err f) block' column
  without_rest Read p = record { holds = unbroken_before t.holds.1.1 t.holds.1.0 p }
  without_rest Write p = absurd p
