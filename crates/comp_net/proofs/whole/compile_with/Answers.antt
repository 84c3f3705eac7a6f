use Rattle.std.proofs.Common.{◌≡◌, ◌∙◌, ap, subst}
use Rattle.std.specs.Prelude.{None, IfOk}
use Rattle.pop_io.specs.Failures.{IfFault}
use Rattle.cert_base.specs.ProofBound.{proof_bound}
use Rattle.comp_net.specs.Atoms.{leaves_for}
use Rattle.comp_net.specs.BuiltNet.{net_of}
use Rattle.comp_net.specs.BuiltBound.{bound_in}
use Rattle.comp_net.specs.CompileFaults.{fault_in, RefusesIn}
use Rattle.comp_net.proofs.whole.compile_with.Goals as goal

pub returns : goal.returns
returns c =
    let names = c.args.names.now in
    let tree = c.args.pred.now.tree in
    let result = c.compile_by.result in
    let leaves = c.leaves_for-leaves.ensures ∙ ap (leaves_for c.args.choice) c.tree.ensures.value in
    let is = c.compile_by.ensures in
    record {
      net = subst (λ l. IfOk result (λ both. both.0 ≡ net_of l names tree)) leaves is.net;
      valid = is.valid;
      bound = subst (λ l. IfOk result (λ both. proof_bound both.1 ≡ bound_in l tree)) leaves is.bound;
      within = is.within;
      formed = is.formed;
      preds = is.preds;
      single = is.single;
      right = is.right;
      tame = is.tame;
      accepted = subst (λ l. IfOk result (λ both. fault_in l tree ≡ None)) leaves is.accepted;
      refused = subst (λ l. IfFault result (RefusesIn l tree)) leaves is.refused;
    }
