-- A line and the place after it, apart: what a lent block says of them, an input with that block says.
use Prim.Native.Nat.{ℕ}
use mathlib.Core.Path.{◌≡◌, sym, subst}
use mathlib.Core.List.{List}
use lib.Seq.{slice_empty}
use Rattle.std.specs.Prelude.{Option, None, Some, Result, Ok, Err}
use Rattle.lines.specs.declared.failure.Failure.{Failure}
use Rattle.lines.specs.declared.failure.Failure.TheVariants.{Read, Write}
use Rattle.lines.specs.declared.input.Line.{Line}
use Rattle.lines.specs.declared.input.Line.TheVariants.{Ended, Full}
use Rattle.lines.specs.declared.place.Place.{Place}
use Rattle.lines.specs.Input.{Input, Stores, Took, TookWhole}
use Rattle.lines.specs.Place.{standing, line_of, place_of}
use Rattle.lines.specs.Place as place

module _ {block : List ℕ} {from : Place} {block' column : List ℕ} where
  stores : {Over : Input → Type 0} (r : Result (Option (Line × Place)) Failure) → place.Stores Over block from r block' column
      → Stores Over (standing block from) (line_of r) (standing block' (place_of r)) column
  stores (Ok None) h = record { holds = (h.holds, slice_empty 0 block') }
  stores (Ok (Some (Ended n, to))) h = record { holds = (h.holds.0, h.holds.2) }
  stores (Ok (Some (Full, to))) h = record { holds = h.holds.1 }
  stores (Err Read) h = record { holds = (h.holds, slice_empty 0 block') }
  stores (Err Write) h = absurd h.holds

  module _ {input : Input} (v : standing block from ≡ input) (r : Result (Option (Line × Place)) Failure)
      {apart : Result (Option Line) Failure × Place} (e : apart ≡ (line_of r, place_of r)) where
    pub took : place.Took block from r block' column → Took input apart.0 (standing block' apart.1) column
    took h =
        subst (λ (i : Input). Took i apart.0 (standing block' apart.1) column) v
        (subst (λ (a : Result (Option Line) Failure × Place). Took (standing block from) a.0 (standing block' a.1) column) (sym e) (stores r h))

    pub took_whole : place.TookWhole block from r block' column → TookWhole input apart.0 (standing block' apart.1) column
    took_whole h =
        subst (λ (i : Input). TookWhole i apart.0 (standing block' apart.1) column) v
        (subst (λ (a : Result (Option Line) Failure × Place). TookWhole (standing block from) a.0 (standing block' a.1) column) (sym e) (stores r h))
