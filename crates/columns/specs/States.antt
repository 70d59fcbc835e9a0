-- The columns of states.
use Rattle.columns.specs.declared.states.StatesMut.{StatesMut}
use Rattle.columns.specs.Kept.{Kept}

-- The lent columns are those that were lent.
pub record SameStates (s s' : StatesMut) : Type 0 where
  pub expression : Kept s.expression s'.expression
  pub accepting : Kept s.accepting s'.accepting
