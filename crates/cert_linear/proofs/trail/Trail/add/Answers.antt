use Rattle.std.proofs.Common.{◌≡◌, ◌+◌, ◌≤◌, ◌++◌, ◌∷◌, [], length, rules}
use Rattle.cert_base.specs.declared.limits.TheConstants.{FACT_LIMIT}
use Rattle.cert_linear.proofs.Parts.{kept_append, kept_equal}
use Rattle.cert_linear.proofs.trail.Trail.add.Goals.{in-Ok, in-Err}
use Rattle.cert_linear.proofs.trail.Trail.add.Goals as goal

pub invariant_of-self : goal.invariant_of-self
invariant_of-self c = elim c.match-push.branch [
  | in-Ok w ↦
      let room : length c.self.inside.facts.items + 1 ≤ FACT_LIMIT = search rules in
      let more : c.push.new.self.items ≡ c.self.inside.facts.items ++ c.args.fact ∷ [] = search rules in
      kept_append c.self.inside.stable c.self.inside.facts.items (c.args.fact ∷ []) c.push.new.self.items c.self.inside.tally more room c.self.invariant.1 c.self.invariant.2
  | in-Err w ↦
      let same : c.push.new.self.items ≡ c.self.inside.facts.items = search rules in
      kept_equal c.self.inside.stable c.self.inside.facts.items c.push.new.self.items c.self.inside.tally same c.self.invariant.0 c.self.invariant.1 c.self.invariant.2
]

pub returns : goal.returns
returns c = record { added = search rules; refused = search rules; unchanged = search rules }
