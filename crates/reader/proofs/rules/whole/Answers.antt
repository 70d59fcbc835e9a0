-- A beginning with the end of the text after it.
use Rattle.columns.proofs.ByteAt.{step_end, step_byte}
use Rattle.columns.specs.Table.{lent_table}
use Rattle.reader.proofs.Whole.{whole_broken, whole_ended}
use Rattle.reader.proofs.rules.whole.Goals as goal

pub returns-in_default-step-clause-whole : goal.returns-in_default-step-clause-whole
returns-in_default-step-clause-whole c =
    whole_broken _ _ (lent_table c.args.table.now) (lent_table c.beginning-found.new.table) c.beginning-found.result c.in-Ok.is
    c.beginning-found.ensures.begun (step_byte _ _ c.step.ensures c.in_default-step.is) c.not_grammar.result c.not_grammar.ensures

pub returns-clause-whole : goal.returns-clause-whole
returns-clause-whole c =
    whole_ended _ _ (lent_table c.args.table.now) (lent_table c.beginning-found.new.table) c.beginning-found.result c.in-Ok.is
    c.beginning-found.ensures.begun (step_end _ _ c.step.ensures c.in-None.is)
