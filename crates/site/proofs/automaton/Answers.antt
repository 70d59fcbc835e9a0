-- `automaton` reads the text, and builds what it read.
use Rattle.std.proofs.Common.{◌∙◌, ap}
use Rattle.std.proofs.lemmas.Result.{err_from_is_err_and}
use Rattle.columns.specs.Table.{first}
use Rattle.site.proofs.Making.{within, made_unread, made_refused, made_built}
use Rattle.site.proofs.automaton.Goals as goal

pub returns-in-Err-clause-made : goal.returns-in-Err-clause-made
returns-in-Err-clause-made c = made_unread c.in-Err.ensures.read c.clear.ensures.cleared

pub first-read-requires : goal.first-read-requires
first-read-requires c = within c.in-Ok.ensures.read c.view.ensures

pub returns-in_err-counts-clause-made : goal.returns-in_err-counts-clause-made
returns-in_err-counts-clause-made c =
    let p = err_from_is_err_and c.from_residual.result c.from_residual.ensures.1 in
    rw (p.1, p.2) (made_refused c.in-Ok.ensures.read (c.first-read.ensures ∙ ap (first _) c.view.ensures) c.in_err-counts.ensures.built)

pub returns-clause-made : goal.returns-clause-made
returns-clause-made c =
    made_built c.in-Ok.ensures.read (c.first-read.ensures ∙ ap (first _) c.view.ensures) c.letters.ensures c.in_ok-counts.ensures.built
