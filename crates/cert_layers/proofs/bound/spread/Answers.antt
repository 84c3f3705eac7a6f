use Rattle.std.proofs.Common.{SFits, w64, rules}
use Rattle.cert_layers.proofs.Small.{spread-at}
use Rattle.cert_layers.proofs.bound.spread.Goals as goal

pub returns-clause-bound : goal.returns-clause-bound
returns-clause-bound c =
    let gf : SFits w64 c.greatest_of.result = search rules in
    let lf : SFits w64 c.least_of.result = search rules in
    spread-at c.args.weights.now c.in-Some.first.now c.in-Some.others.now c.greatest_of.result c.least_of.result c.abs_diff.result c.requires c.in-Some.ensures.cases.0 gf lf c.greatest_of.ensures c.least_of.ensures c.abs_diff.ensures
