-- 01's proved examples. Computed.
use Rattle.promises.specs.Examples.{all_hold, examples, ExamplesHold}

pub examples_hold : ExamplesHold
unfolding all_hold examples
examples_hold = record { all = tt }
