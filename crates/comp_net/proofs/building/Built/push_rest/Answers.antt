use Rattle.std.proofs.Common.{refl, sym}
use Rattle.std.proofs.lemmas.List.{length-map}
use Rattle.std.proofs.lemmas.Result.{on_ok_weaker}
use Rattle.pres_ast.specs.PredTree.{Congruent}
use Rattle.comp_remainder.specs.RemainderLeaf.{residue_of, remainder_leaf_of}
use Rattle.comp_remainder.specs.RemainderProof.{congruence, remainder_steps}
use Rattle.comp_net.proofs.Adding.{built_atom, one_added}
use Rattle.comp_net.proofs.building.Built.push_rest.Goals as goal

pub returns : goal.returns
returns c =
    let coefs = c.args.coefs.now in
    let m = c.args.modulus in
    let is = built_atom c.args.choice c.args.helpers (Congruent coefs m c.args.rest) (remainder_leaf_of coefs m c.args.rest c.args.helpers) (congruence coefs m c.args.rest) remainder_steps c.in_ok-leaf.leaf c.in_ok-leaf.part c.in_ok-leaf.ensures.built refl refl (sym (length-map coefs (residue_of m))) refl in
    on_ok_weaker c.push_atom.result (one_added c.args.choice c.args.helpers (Congruent coefs m c.args.rest) c.in_ok-leaf.leaf c.in_ok-leaf.part _ _ refl (λ n. refl) is) c.push_atom.ensures
