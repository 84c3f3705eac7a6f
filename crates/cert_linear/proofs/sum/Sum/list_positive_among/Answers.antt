use Rattle.std.proofs.Common.{ℕ, subst, arith}
use Rattle.std.specs.Prelude.{List, All}
use Rattle.std.proofs.lemmas.List.{take_all}
use Rattle.cert_linear.specs.Sums.{IsListedIfPositive}
use Rattle.cert_linear.proofs.Entries.{listed-more}
use Rattle.cert_linear.proofs.sum.Sum.list_positive_among.Goals as goal

pub loop-variable-preserved : goal.loop-variable-preserved
loop-variable-preserved c =
    listed-more c.args.self.now c.loop-variable.positive.items c.push_positive.new.positive.items c.args.variables.now c.loop-variable.variable-index 0 (omega arith) c.in_ok-push_positive.ensures.stay c.in_ok-push_positive.ensures.listed c.loop-variable.invariant

pub returns : goal.returns
returns c =
    subst (λ (variables : List ℕ). All (IsListedIfPositive c.args.self.now c.loop-variable.positive.items) variables) (take_all c.loop-variable.variable-index c.args.variables.now c.loop-variable-test.false) c.loop-variable.invariant
