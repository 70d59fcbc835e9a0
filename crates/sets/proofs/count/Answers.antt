-- `count` meets its contract: its sum is that of the bits of the first n words.
use Rattle.std.proofs.Common.{ℕ, ◌≡◌, ◌≤◌, ap, ◌∙◌, Iter, length, take, rules, tests, arith}
use Rattle.std.proofs.lemmas.Grind.{common_steps}
use Prim.Native.Nat.{◌^◌}
use lib.Count.{ones}
use Rattle.std.proofs.lemmas.List.{length-take}
use Rattle.std.proofs.lemmas.Iterator.{YieldsList-from_slice, YieldsList-from_map}
use Rattle.std.proofs.lemmas.Iterator.Adapters.{fits_from_length, at_most_from_yields_List}
use Rattle.std.proofs.lemmas.Iterator.Consumers.{sum_by_from_yields_List}
use Rattle.sets.proofs.Counted.{counted}
use Rattle.sets.proofs.count.Goals as goal

pub sum-requires-clause-fits : goal.sum-requires-clause-fits
sum-requires-clause-fits c =
    let over = c.iter.result.rest.now in
    let few : length over ≤ 1024 = omega (arith, ap length c.iter.ensures.rest, length-take c.args.n c.args.words.now) in
    fits_from_length _ _ 1024 (2 ^ 64) (at_most_from_yields_List (YieldsList-from_slice over cc) few) c.map.ensures.closure (omega arith)
    (λ x r q k. search (rules, tests))

pub returns : goal.returns
returns c =
    let words = c.args.words.now in
    let first = take c.args.n words in
    let each : length c.iter.result.rest.now ≡ c.args.n = omega (arith, ap length c.iter.ensures.rest, length-take c.args.n words) in
    let all : c.iter.result.rest.now ≡ first = grind (arith, common_steps, c.iter.ensures.rest, each) in
    sum_by_from_yields_List ones first c.map.result c.sum.result c.sum.ensures.ran
    (YieldsList-from_map _ ones (YieldsList-from_slice first (ap (λ (i : Iter ℕ). i.rest.now) c.map.ensures.source ∙ all))
    c.map.ensures.closure (λ x r q k. search (rules, tests)))
    ∙ counted words (λ i. omega (arith, c.type_inv.words i)) c.args.n c.requires.0
