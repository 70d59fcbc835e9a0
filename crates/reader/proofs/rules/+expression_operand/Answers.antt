-- `operand`: `1`, a letter, or two expressions with their sign in parentheses.
use Rattle.std.proofs.Common.{ℕ, refl, arith}
use Rattle.theory.specs.declared.refusal.Cause.TheVariants.{TooDeep}
use Rattle.columns.proofs.ByteAt.{step_end, step_byte}
use Rattle.columns.specs.Table.{lent_table}
use Rattle.reader.specs.Found.{begins}
use Rattle.reader.proofs.Answers.{end_answers, leaf_refused, leaf_made}
use Rattle.reader.proofs.Pair.{Left, inside, deep_answers, left, left_refused, signed_on, sign_refused, right_refused, pair_answers}
use Rattle.reader.proofs.rules.+expression_operand.Goals as goal
use Rattle.reader.proofs.rules.+expression_operand.Goals.{operand-In-Ok}

pub operand-returns-in_default-clause-answered : goal.operand-returns-in_default-clause-answered
operand-returns-in_default-clause-answered t c =
    let s = begins c.args.at (lent_table c.args.table.now) in
    end_answers c.args.at.room c.args.text.now s c.not_grammar.result c.not_grammar.ensures (step_end _ _ c.step.ensures c.in_default.is)

pub operand-returns-in_default-leaf-clause-answered : goal.operand-returns-in_default-leaf-clause-answered
operand-returns-in_default-leaf-clause-answered t c =
    let s = begins c.args.at (lent_table c.args.table.now) in
    leaf_refused _ _ s c.requires (step_byte _ _ c.step.ensures c.in-Some.is) c.not_grammar-in_default-leaf.result
    c.not_grammar-in_default-leaf.ensures c.if-byte-ne40.true c.in_default-leaf.ensures

pub operand-returns-then-byte-ne40-clause-answered : goal.operand-returns-then-byte-ne40-clause-answered
operand-returns-then-byte-ne40-clause-answered t c =
    let leaf = c.in-Some-leaf.ensures in
    leaf_made _ _ _ c.requires (step_byte _ _ c.step.ensures c.in-Some.is) _ leaf.0 leaf.1 (leaf.2 c.args.at.made) c.entry.result
    (lent_table c.entry.new.table) c.entry.ensures.entry

pub operand-returns-then-at-eq-OPEN-clause-answered : goal.operand-returns-then-at-eq-OPEN-clause-answered
operand-returns-then-at-eq-OPEN-clause-answered t c =
    deep_answers c.requires (step_byte _ _ c.step.ensures c.in-Some.is) c.if-byte-ne40.false
    (record { cause = TooDeep; place = c.args.at.cursor.at }) refl (omega arith)

pub operand-returns-in_default-x-clause-answered : goal.operand-returns-in_default-x-clause-answered
operand-returns-in_default-x-clause-answered t c =
    let byte = step_byte c.args.text.now c.args.at.cursor.at c.step.ensures c.in-Some.is in
    left_refused (inside c.requires byte c.if-byte-ne40.false (omega arith)) (lent_table c.expression-x.new.table) c.expression-x.result
    c.in_default-x.is c.expression-x.ensures.answered

-- The left expression, read before the sign.
left_read : (t : ℕ) (c : operand-In-Ok t)
    → Left c.args.at.room c.args.text.now (begins c.args.at (lent_table c.args.table.now)) c.in-Ok.cursor.at c.in-Ok.first
    (lent_table c.expression-x.new.table)
left_read t c =
    let byte = step_byte c.args.text.now c.args.at.cursor.at c.step.ensures c.in-Some.is in
    left (inside c.requires byte c.if-byte-ne40.false (omega arith)) c.in-Ok.ensures.answered c.in-Ok.ensures.unstarred

pub operand-returns-in-Err-clause-answered : goal.operand-returns-in-Err-clause-answered
operand-returns-in-Err-clause-answered t c =
    sign_refused (left_read t (goal.at.operand-returns-in-Err-clause-answered t c).In-Ok) c.in-Err.refusal
    (lent_table c.expression-x.new.table) c.in-Err.ensures

pub operand-returns-in_default-y-clause-answered : goal.operand-returns-in_default-y-clause-answered
operand-returns-in_default-y-clause-answered t c =
    let g = c.in-Ok-sign.read.0 in
    let x = left_read t (goal.at.operand-returns-in_default-y-clause-answered t c).In-Ok in
    right_refused g (signed_on x c.in-Ok-sign.read c.in-Ok-sign.ensures) (lent_table c.expression-y.new.table) c.expression-y.result
    c.in_default-y.is c.expression-y.ensures.answered

pub operand-returns-clause-answered : goal.operand-returns-clause-answered
operand-returns-clause-answered t c =
    let g = c.in-Ok-sign.read.0 in
    let x = left_read t (goal.at.operand-returns-clause-answered t c).In-Ok in
    let y = c.in-Ok-y.ensures in
    pair_answers g (signed_on x c.in-Ok-sign.read c.in-Ok-sign.ensures) y.answered y.unstarred c.number.result c.number.ensures c.close.result
    (lent_table c.close.new.table) c.close.ensures.close
