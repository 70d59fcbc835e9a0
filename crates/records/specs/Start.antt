-- What the records program makes of the expression line: the refusal's line, or the automaton that its text writes.
use Rattle.std.specs.Prelude.{ℕ, ◌≡◌, List, Option, None, Some}
use Rattle.theory.specs.Refusal.{Refusal, success}
use Rattle.theory.specs.Grammar.{Text}
use Rattle.theory.specs.Record.{handed}
use Rattle.theory.specs.Lines.{refusal_line}
use Rattle.theory.specs.Report.{Report, withheld}
use Rattle.site.specs.Site.{Shown, Made}
use Rattle.site.specs.Sited.{Sited}
use Rattle.site.specs.declared.Site.{Site}

abbrev pub Begins : Text → Shown → Option Site → Shown → List ℕ → Type 0
Begins text s None s' held = (r : Refusal) × Made text s (withheld r) s' × (held ≡ refusal_line r)
Begins text s (Some site) s' held =
    (a : Report) × Made text s a s' × (a.refusal ≡ success) × (a.states ≡ site.states) × (a.arcs ≡ site.arcs)
    × Sited text (handed site.states s'.accepting site.arcs s'.arcs)

-- What `automaton_of` owes.
pub record Starts (text : Text) (s : Shown) (start : Option Site) (s' : Shown) (held : List ℕ) : Type 0 where
  pub begins : Begins text s start s' held
