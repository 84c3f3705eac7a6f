use Rattle.std.proofs.Common.{◌≡◌}
use Rattle.std.specs.Prelude.{IfOk}
use Rattle.cert_base.specs.ClosingTests.{closes_by_sum}
use Rattle.cert_linear.proofs.Refuted.{linear-refuted, told}
use Rattle.cert_linear.proofs.closing.linear_closes.Goals as goal

pub returns : goal.returns
returns c =
    let facts = c.args.facts.now in
    let terms = c.args.terms.now in
    let is : IfOk c.closes.result (λ closes. closes ≡ closes_by_sum facts terms) = rw (c.as_slice.ensures, c.as_slice-2.ensures) at c.closes.ensures.closes in
    told facts (closes_by_sum facts terms) c.closes.result is (linear-refuted facts terms c.closes.result is)

pub closes-requires-clause-kept : goal.closes-requires-clause-kept
closes-requires-clause-kept c = c.new.ensures 0 c.as_slice.result.now

pub closes-requires-clause-named : goal.closes-requires-clause-named
closes-requires-clause-named c = rw (c.as_slice.ensures, c.as_slice-2.ensures) c.requires.named

pub closes-requires-clause-multipliers : goal.closes-requires-clause-multipliers
closes-requires-clause-multipliers c = rw c.as_slice-2.ensures c.requires.multipliers

pub closes-requires-clause-ordered : goal.closes-requires-clause-ordered
closes-requires-clause-ordered c = rw c.as_slice.ensures c.requires.ordered
