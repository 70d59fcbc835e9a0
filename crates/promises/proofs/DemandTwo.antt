-- The letter's second demand, met by whoever meets the contracts of `build` and `judge`.
use Rattle.theory.proofs.Needs.{counted}
use Rattle.promises.specs.DemandTwo.{DemandTwo}
use Rattle.promises.proofs.Handing.{accepted_exactly, own_verdict, refused_exactly, held}

pub demand_two : DemandTwo
demand_two = record {
  accepts = λ h built j enough. accepted_exactly h built j enough;
  verdicts = λ h built j enough. own_verdict h built j enough;
  refuses = refused_exactly;
  needs = counted;
  holds = λ h built. held h built;
}
