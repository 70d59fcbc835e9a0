-- The letter's first demand, met by whoever meets the contracts.
use Rattle.promises.specs.DemandOne.{DemandOne}
use Rattle.promises.proofs.Causes.Table.{table_meets}
use Rattle.promises.proofs.Causes.Reader.{reader_meets}
use Rattle.promises.proofs.Causes.Builder.{builder_meets}
use Rattle.promises.proofs.Site.{site_meets}
use Rattle.promises.proofs.TextCauses.{text_meets}
use Rattle.promises.proofs.Causes.Matcher.{matcher_meets}

pub demand_one : DemandOne
demand_one = record {
  checks = table_meets;
  reads = reader_meets;
  builds = builder_meets;
  judges = matcher_meets;
  sites = site_meets;
  judges_text = text_meets;
}
