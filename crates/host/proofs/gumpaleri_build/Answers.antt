-- The place of what the builder refuses fits.
use Rattle.host.proofs.Hosting.{builds_place}
use Rattle.host.proofs.gumpaleri_build.Goals as goal

pub refused-requires-in-Err : goal.refused-requires-in-Err
refused-requires-in-Err c = builds_place c.in-Err.refusal c.in-Err.ensures.built
