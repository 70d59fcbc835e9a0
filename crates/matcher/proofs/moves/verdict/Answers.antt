-- `verdict` meets its contract: each of its answers is the verdict with live.
use Rattle.std.proofs.Common.{ℕ, ◌*◌, sym, ap, ◌∙◌}
use Rattle.theory.specs.Below.{count_below}
use Rattle.sets.specs.Bits.{bit}
use Rattle.matcher.proofs.Answered.{answered_wrong, answered_whole}
use Rattle.matcher.proofs.moves.verdict.Goals as goal

pub returns-in-Some : goal.returns-in-Some
returns-in-Some c = λ a k h w e. answered_wrong _ h e c.in-Some.is

pub returns-then-accepts : goal.returns-then-accepts
returns-then-accepts c = λ a k h w e.
    answered_whole _ h e c.in_default.is (sym c.if-accepts.true ∙ c.accepts.ensures)
    (c.count-live.ensures ∙ ap (λ (n : ℕ). count_below (n * 64) (bit c.args.work.now.current.now)) c.words.ensures)

pub returns-else-accepts : goal.returns-else-accepts
returns-else-accepts c = λ a k h w e.
    answered_whole _ h e c.in_default.is (sym c.if-accepts.false ∙ c.accepts.ensures)
    (c.count-live.ensures ∙ ap (λ (n : ℕ). count_below (n * 64) (bit c.args.work.now.current.now)) c.words.ensures)
