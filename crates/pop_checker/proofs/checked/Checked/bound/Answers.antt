use Rattle.std.proofs.Common.{subst}
use Rattle.pop_checker.specs.CheckedModel.{CheckedModel, IsChecked}
use Rattle.pop_checker.proofs.checked.Checked.bound.Goals as goal

pub returns-clause-kept : goal.returns-clause-kept
returns-clause-kept c = subst (λ (m : CheckedModel). IsChecked m) c.self.view_is c.self.invariant
