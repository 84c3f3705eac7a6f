use Rattle.std.proofs.Common.{◌≡◌, rules}
use Rattle.std.specs.Prelude.{IfOk}
use Rattle.cert_base.specs.ClosingTests.{closes_by_sum}
use Rattle.cert_linear.proofs.Refuted.{linear-refuted, told}
use Rattle.cert_linear.proofs.trail.Trail.is_refuted_by_sum.Goals as goal

pub returns-clause-answer : goal.returns-clause-answer
returns-clause-answer c =
    let closes : IfOk c.closes.result (λ closes. closes ≡ closes_by_sum c.args.self.now c.args.terms.now) = search rules in
    told c.args.self.now (closes_by_sum c.args.self.now c.args.terms.now) c.closes.result closes (linear-refuted c.args.self.now c.args.terms.now c.closes.result closes)
