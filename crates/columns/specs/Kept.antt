-- A column that a struct of lent columns holds is the caller's own still.
use Rattle.std.specs.Prelude.{◌≡◌, List, length}
use Rattle.std.specs.Borrow.{MutBor}

-- The same reference, to as many items.
pub record Kept {A : Type 0} (r r' : MutBor (List A)) : Type 0 where
  pub same : r'.ghost_name ≡ r.ghost_name
  pub length : length r'.now ≡ length r.now
