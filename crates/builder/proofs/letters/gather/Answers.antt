-- `gather` meets its contract: the letters of the entries passed are marked.
use Rattle.std.proofs.Common.{◌∙◌, sym}
use Rattle.builder.proofs.Marks.{marked_none, marked_other, marked_far, marked_letter, marked_all, marked_as}
use Rattle.builder.proofs.letters.gather.Goals as goal
use Rattle.builder.proofs.letters.gather.Goals.{then-table-i+then-l-lt256, then-table-i+else-l-lt256, else-table-i}

pub loop-i-init : goal.loop-i-init
loop-i-init c = marked_none _ _

pub loop-i-preserved : goal.loop-i-preserved
loop-i-preserved c =
    let m = c.loop-i.invariant in
    let is = c.number-letter.ensures in
    elim c.if-table-i.branch [
      | then-table-i+then-l-lt256 w ↦ marked_as w.marks-is (marked_letter m (w.if-table-i.true ∙ is) w.if-l-lt256.true)
      | then-table-i+else-l-lt256 w ↦ marked_as w.marks-is (marked_far m (w.if-table-i.true ∙ is) w.if-l-lt256.false)
      | else-table-i w ↦ marked_as w.marks-is (marked_other m (λ e. w.if-table-i.false (e ∙ sym is)))
    ]

pub returns : goal.returns
returns c = marked_all c.loop-i.invariant c.loop-i.auto.i-end c.loop-i-test.false
