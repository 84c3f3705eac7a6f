use Rattle.std.proofs.Common.{◌≤◌, length, rules}
use Rattle.cert_linear.proofs.Parts.{kept_cut}
use Rattle.cert_linear.proofs.trail.Trail.cut.Goals as goal

pub invariant_of-self : goal.invariant_of-self
invariant_of-self c =
    let within : c.args.len ≤ length c.self.inside.facts.items = search rules in
    let same = c.lower-self-inside.ensures.kept c.self.inside.facts.items c.self.invariant.2 in
    kept_cut c.args.len c.lower-self-inside.result c.self.inside.facts.items c.truncate.new.self.items c.lower-self-inside.new.self c.truncate.ensures.items c.lower-self-inside.ensures.within.1 within c.self.invariant.0 same

pub returns : goal.returns
returns c = search rules
