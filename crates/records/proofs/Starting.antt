-- The expression line: what the site makes is made of the line's bytes.
use mathlib.Core.Path.{◌≡◌, refl, subst}
use mathlib.Core.List.{List}
use Prim.Native.Nat.{ℕ}
use Rattle.std.specs.Prelude.{Some, Ok}
use Rattle.theory.specs.Grammar.{Text}
use Rattle.site.specs.declared.Site.{Site}
use Rattle.site.specs.Site.{Shown, Made}
use Rattle.site.specs.Values.{values}
use Rattle.site.proofs.Judging.{built_from, sited}
use Rattle.records.specs.Start.{Starts}

pub started : {text text' : Text} {s s' : Shown} {site : Site} {held : List ℕ} → text ≡ text' → Made text s (values (Ok site)) s'
    → Starts text' s (Some site) s' held
started {s = s} {s' = s'} {site} e h =
    let made = subst (λ (t : Text). Made t s (values (Ok site)) s') e h in
    record { begins = (_, made, refl, refl, refl, sited (built_from made refl)) }
