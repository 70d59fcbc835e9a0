-- `letters` counts the entries of the kind.
use Rattle.std.proofs.Common.{rules, ◌≡◌, ◌∙◌, eqb}
use Rattle.std.specs.Prelude.{count_by}
use Rattle.theory.specs.Kind as numbers
use Rattle.site.proofs.Counting.{letters_counted}
use Rattle.site.proofs.letters.Goals as goal

pub returns : goal.returns
returns c =
    let counted : c.count.result ≡ count_by (λ k. eqb k numbers.letter) c.args.kind.now = search rules in
    counted ∙ letters_counted c.args.kind.now
