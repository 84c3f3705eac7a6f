use Rattle.std.proofs.Common.{sym, ◌∙◌}
use Rattle.cert_linear.proofs.Refuted.{residue_by_facts}
use Rattle.cert_base.specs.ClosingTests.{sum_of}
use Rattle.cert_linear.proofs.closing.residue.Goals as goal

pub returns-clause-closes : goal.returns-clause-closes
returns-clause-closes c =
    let summed = rw c.if-not-branch.false at c.in_ok-sum_up.ensures.sum in
    let fails = sym (c.is_constant.ensures (sum_of c.args.facts.now c.args.terms.now) summed.1) ∙ c.if-is_constant.false in
    residue_by_facts c.args.facts.now c.args.modulus c.args.terms.now c.sum_up.new.sum c.is_denied.result summed.0 summed.1 fails c.is_denied.ensures.denied
