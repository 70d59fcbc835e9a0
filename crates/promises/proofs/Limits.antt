-- 01's limits of what the reader takes. Computed.
use Rattle.promises.specs.Limits.{all_keep, limits, LimitsKeep}

pub limits_keep : LimitsKeep
unfolding all_keep limits
limits_keep = record { all = tt }
