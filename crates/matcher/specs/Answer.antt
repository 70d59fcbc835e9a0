-- 01, "Form by location": "Where an answer is an enum, a definition gives this paper's number and values for each of the enum's cases."
use Rattle.std.specs.Prelude.{Result, Ok, Err}
use Rattle.theory.specs.Record.{accepted, unfinished, wrong}
use Rattle.theory.specs.Judge.{Judgement, given, withheld}
use Rattle.theory.specs.Stated.{stated}
use Rattle.theory.specs.declared.refusal.Refusal.{Refusal}
use Rattle.matcher.specs.declared.Verdict.{Verdict}
use Rattle.matcher.specs.declared.Verdict.TheVariants.{Accepted, Unfinished, Wrong}

abbrev pub said : Verdict → Judgement
said (Accepted live) = given accepted live
said (Unfinished live) = given unfinished live
said (Wrong place) = given (wrong place) 0

abbrev pub values : Result Verdict Refusal → Judgement
values (Ok verdict) = said verdict
values (Err refusal) = withheld (stated refusal)
