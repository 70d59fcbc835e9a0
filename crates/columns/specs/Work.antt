-- The matcher's work columns as the definitions have them.
use Rattle.theory.specs.Record.{work, Work as Columns}
use Rattle.columns.specs.declared.work.Work.{Work}
use Rattle.columns.specs.Kept.{Kept}

abbrev pub lent_work : Work → Columns
lent_work k = work k.current.now k.next.now

-- The lent columns are those that were lent.
pub record SameWork (k k' : Work) : Type 0 where
  pub current : Kept k.current k'.current
  pub next : Kept k.next k'.next
