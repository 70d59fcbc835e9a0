-- The falling number of `empty_word` is the row.
use Rattle.derive.proofs.rows.+empty_word.Given as goal

abbrev pub decreases-empty_word : goal.decreases-empty_word
decreases-empty_word l = l.row
