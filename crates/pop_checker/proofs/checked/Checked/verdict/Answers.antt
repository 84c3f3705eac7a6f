use Rattle.std.proofs.Common.{◌≡◌, subst}
use Rattle.pop_leaf.specs.NetModel.{output_of}
use Rattle.pop_net.specs.Lanes.{tuple_of}
use Rattle.pop_checker.specs.CheckedModel.{CheckedModel, IsChecked}
use Rattle.pop_checker.proofs.Verdicts.{all_right, first_right, all_as_first}
use Rattle.pop_checker.proofs.checked.Checked.verdict.Goals as goal

pub returns-clause-value : goal.returns-clause-value
returns-clause-value c =
    let is : IsChecked c.args.self.now = subst (λ (m : CheckedModel). IsChecked m) c.self.view_is c.self.invariant in
    let output = subst (λ (m : CheckedModel). c.output.result ≡ output_of m.net (tuple_of m.net c.word.result)) c.self.view_is c.output.ensures in
    first_right c.args.self.now c.args.counts.now c.args.crowd.now c.word.result c.output.result
    (all_right c.args.self.now c.args.counts.now c.args.crowd.now is c.requires.input c.requires.reached c.requires.terminal) c.word.ensures output

pub returns-clause-outputs : goal.returns-clause-outputs
returns-clause-outputs c =
    let is : IsChecked c.args.self.now = subst (λ (m : CheckedModel). IsChecked m) c.self.view_is c.self.invariant in
    all_as_first c.args.self.now c.args.counts.now c.args.crowd.now c.output.result
    (all_right c.args.self.now c.args.counts.now c.args.crowd.now is c.requires.input c.requires.reached c.requires.terminal) (returns-clause-value c)
