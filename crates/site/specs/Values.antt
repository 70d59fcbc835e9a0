-- 01, "Form by location": "Where an answer is an enum, a definition gives this paper's number and values for each of the enum's cases."
use Rattle.std.specs.Prelude.{Result, Ok, Err}
use Rattle.theory.specs.Refusal.{success}
use Rattle.theory.specs.Stated.{stated}
use Rattle.theory.specs.Report.{Report, withheld}
use Rattle.theory.specs.declared.refusal.Refusal.{Refusal}
use Rattle.site.specs.declared.Site.{Site}

abbrev pub values : Result Site Refusal → Report
values (Ok s) = record {
  refusal = success;
  entries = s.entries;
  letters = s.letters;
  states = s.states;
  expressions = s.expressions;
  arcs = s.arcs;
}
values (Err r) = withheld (stated r)
