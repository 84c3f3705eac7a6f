use Rattle.std.proofs.Common.{◌∙◌, length, sym, subst}
use Rattle.pop_leaf.specs.NetModel.{NetModel, IsNet}
use Rattle.pop_leaf.specs.Reaction.{IsSingle}
use Rattle.pres_ast.specs.PredModel.{IsPred}
use Rattle.cert_base.specs.ProofLimits.{IsProofWithin}
use Rattle.cert_base.specs.ValidProof.{ValidProof}
use Rattle.cert_base.specs.FactsAndCases.{over_count}
use Rattle.pop_checker.specs.Sound.{IsRight}
use Rattle.theory_tame.specs.Laws.{AreTameEach}
use Rattle.comp_net.specs.Atoms.{atoms, most_helpers, AreBuildable}
use Rattle.comp_net.specs.BuiltNet.{net_of}
use Rattle.comp_net.specs.Building.{AreAtomProofs}
use Rattle.comp_net.proofs.Adding.{whole, whole_as}
use Rattle.comp_net.proofs.Valid.{pred_buildable, proof-valid, proof-within, proof-preds, bound-is, net-right, net-single, net-tame, net-formed, net-as}
use Rattle.comp_net.proofs.building.build.Goals as goal

pub push_tree-requires-clause-atoms : goal.push_tree-requires-clause-atoms
push_tree-requires-clause-atoms c =
    subst (AreBuildable c.args.choice) (sym c.tree-tree.ensures.value) (pred_buildable c.args.choice c.args.pred.now.variables c.args.pred.now.tree c.tree-tree.ensures.limits c.requires.none)

pub of_valid-net-requires : goal.of_valid-net-requires
of_valid-net-requires c =
    let names = c.args.names.now in
    let tree = c.args.pred.now.tree in
    let built = whole_as c.args.choice _ tree _ c.push_tree.new.self c.tree-tree.ensures.value c.count_helpers-helpers.ensures.most
    (whole c.args.choice _ _ _ _ c.new.ensures.items c.new-2.ensures.items c.new-3.ensures.items c.in_ok-push_tree.ensures) in
    let net = net-as c.args.choice names c.in_ok-names.names tree c.from_vec.result c.from_vec-2.result c.in_ok-names.ensures (c.from_vec.ensures ∙ built.leaves) (c.from_vec-2.ensures ∙ built.items) in
    subst IsNet (sym net) (net-formed c.args.choice names tree c.requires.formed (subst (λ n. IsPred n tree) (sym c.requires.count) c.tree-tree.ensures.limits) c.requires.none)

pub returns : goal.returns
returns c =
    let choice = c.args.choice in
    let names = c.args.names.now in
    let pred = c.args.pred.now in
    let tree = pred.tree in
    let built = whole_as choice _ tree _ c.push_tree.new.self c.tree-tree.ensures.value c.count_helpers-helpers.ensures.most
    (whole choice _ _ _ _ c.new.ensures.items c.new-2.ensures.items c.new-3.ensures.items c.in_ok-push_tree.ensures) in
    let net = c.of_valid-net.ensures ∙ net-as choice names c.in_ok-names.names tree c.from_vec.result c.from_vec-2.result c.in_ok-names.ensures (c.from_vec.ensures ∙ built.leaves) (c.from_vec-2.ensures ∙ built.items) in
    let parts = subst (AreAtomProofs choice (most_helpers choice tree) (atoms tree)) (sym c.from_vec-3.ensures) built.parts in
    record {
      net = net;
      valid = subst (λ n. ValidProof n pred (record { leaves = c.from_vec-3.result })) (sym net) (proof-valid choice names pred.variables tree c.from_vec-3.result parts);
      bound = bound-is choice (most_helpers choice tree) (atoms tree) c.from_vec-3.result parts;
      within = subst (λ (n : NetModel). IsProofWithin pred.variables (length n.leaves) (record { leaves = c.from_vec-3.result })) (sym net)
          (proof-within choice names pred.variables tree c.from_vec-3.result parts c.tree-tree.ensures.limits c.requires.none);
      formed = subst IsNet (sym net) (net-formed choice names tree c.requires.formed (subst (λ n. IsPred n tree) (sym c.requires.count) c.tree-tree.ensures.limits) c.requires.none);
      preds = proof-preds choice pred.variables tree c.from_vec-3.result parts c.tree-tree.ensures.limits;
      single = subst IsSingle (sym net) (net-single choice names pred.variables tree c.tree-tree.ensures.limits c.requires.none);
      tame = subst (λ n. AreTameEach n (record { leaves = c.from_vec-3.result })) (sym net) (net-tame choice names tree c.from_vec-3.result parts);
      right = subst (λ (n : NetModel). IsRight n pred (record { leaves = c.from_vec-3.result })) (sym net)
          (subst (λ k. IsRight (net_of choice names tree) (over_count k tree) (record { leaves = c.from_vec-3.result })) c.requires.count
          (net-right choice names tree c.from_vec-3.result parts c.requires.formed (subst (λ n. IsPred n tree) (sym c.requires.count) c.tree-tree.ensures.limits) c.requires.none));
    }
