use Rattle.std.proofs.Common.{◌≡◌, ◌+◌, ◌≤◌, ◌++◌, length, rules}
use Rattle.cert_base.specs.declared.limits.TheConstants.{FACT_LIMIT}
use Rattle.cert_linear.proofs.Parts.{kept_append, kept_equal}
use Rattle.cert_linear.proofs.trail.Trail.append.Goals as goal

pub invariant_of-self : goal.invariant_of-self
invariant_of-self c =
    let facts = c.self.inside.facts.items in
    let same : c.append.new.self.items ≡ facts = search rules in
    kept_equal c.self.inside.stable facts c.append.new.self.items c.self.inside.tally same c.self.invariant.0 c.self.invariant.1 c.self.invariant.2

pub invariant_of-self-2 : goal.invariant_of-self-2
invariant_of-self-2 c =
    let facts = c.self.inside.facts.items in
    let room : length facts + length c.args.facts ≤ FACT_LIMIT = search rules in
    let more : c.append.new.self.items ≡ facts ++ c.args.facts = search rules in
    kept_append c.self.inside.stable facts c.args.facts c.append.new.self.items c.self.inside.tally more room c.self.invariant.1 c.self.invariant.2

pub returns-in_err-append : goal.returns-in_err-append
returns-in_err-append c = record { appended = search rules; unchanged = search rules }

pub returns : goal.returns
returns c = record { appended = search rules; unchanged = tt }
