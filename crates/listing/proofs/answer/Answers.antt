-- `answer` takes a line and prints it.
use Rattle.std.proofs.Common.{◌∙◌}
use Rattle.std.proofs.lemmas.Result.{err_from_is_err_and}
use Rattle.listing.specs.Listing.{of_line}
use Rattle.listing.proofs.Printing.{none_taken}
use Rattle.listing.proofs.answer.Goals as goal

pub returns-in_err-line : goal.returns-in_err-line
returns-in_err-line g c =
    let p = err_from_is_err_and c.from_residual.result c.from_residual.ensures.1 in
    rw (p.1, p.2) (none_taken c.in_err-line.field-0.0 c.in_err-line.ensures)

pub returns : goal.returns
returns g c = of_line (c.take_line.auto.column ∙ c.requires) c.in_ok-line.ensures c.print.ensures
