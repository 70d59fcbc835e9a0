-- `answer` has the site make what the text writes, adds it to the totals and puts its line.
use Rattle.std.proofs.Common.{refl, sym, ap, ◌∙◌, ◌++◌, subst, rules}
use Rattle.theory.specs.Report.{Report}
use Rattle.theory.specs.Lines.{report_line}
use Rattle.site.specs.Totals.{values, with_report, Fits}
use Rattle.site.proofs.Reporting.{made_reports, has_entry}
use Rattle.rooms.proofs.answers.answer.Goals as goal

pub line-requires : goal.line-requires
line-requires g c = (search rules, (has_entry c.automaton-site.ensures.made, c.requires.1))

pub with-requires : goal.with-requires
with-requires g c =
    let made = made_reports (record { states = refl; from = refl; letter = refl; to = refl }) c.automaton-site.ensures.made in (
      has_entry c.automaton-site.ensures.made,
      subst (λ (r : Report). Fits (with_report (values c.args.totals) r)) (sym made) c.requires.0,
    )

pub returns : goal.returns
returns g c =
    let made = made_reports (record { states = refl; from = refl; letter = refl; to = refl }) c.automaton-site.ensures.made in
    record {
      put = c.line.ensures.put ∙ ap (λ (r : Report). c.args.output.now ++ report_line r) made;
      short = c.line.ensures.upper_bound;
      adds = c.with.ensures ∙ ap (with_report (values c.args.totals)) made;
    }
