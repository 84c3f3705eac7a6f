-- Nodes that close the base facts leave no wrong end, so a net with a valid proof computes the predicate.
use Rattle.std.proofs.Common.{◌≡◌, Bool, true, false, List, [], length, refl, sym, ◌∙◌}
use Rattle.pop_leaf.proofs.Quiet.{All-slice_get}
use Rattle.pres_ast.specs.PredModel.{PredModel, HasAtoms}
use Rattle.pop_leaf.specs.LeafModel.{LeafModel, IsLeaf}
use Rattle.pop_leaf.specs.NetModel.{NetModel, IsNet}
use Rattle.cert_base.specs.declared.node.Node.{Node}
use Rattle.cert_base.specs.declared.proof.Proof.{Proof}
use Rattle.cert_base.specs.FactsAndCases.{base_list}
use Rattle.cert_base.specs.Closes.{Closes}
use Rattle.cert_base.specs.Ends.{EndsRight}
use Rattle.cert_base.specs.ValidProof.{ValidProof}
use Rattle.cert_base.proofs.WrongEnds.{wrong_ends-met}
use Rattle.cert_tree.proofs.ClosedEnds.{base_formed, closes_none}
use Rattle.cert_tree.proofs.Verdicts.{ends_right}
use Rattle.pop_checker.specs.Sound.{ArePreds, IsSound}
use Rattle.pop_checker.specs.Parts.{AreRightBefore}
use Rattle.pop_checker.proofs.Verdicts.{right_by}

-- if the nodes close the base facts, every terminal end outputs the value
pub closes_right : (leaf : LeafModel) (p : PredModel) (value : Bool) (nodes : List Node) → IsLeaf leaf → p.variables ≡ length leaf.inputs → HasAtoms p.variables p.tree → Closes leaf (base_list leaf p value) nodes [] → EndsRight leaf p.tree value
closes_right leaf p value nodes is over has closes =
    ends_right leaf p.tree value
    (λ count wrong. closes_none closes is (record { inputs = refl; states = refl }) (base_formed leaf p value has) count wrong.reached (wrong_ends-met leaf p value is over count wrong))

valid_right : (net : NetModel) (p : PredModel) (proof : Proof) → IsNet net → ArePreds net proof → ValidProof net p proof → AreRightBefore net proof.leaves (length net.leaves)
valid_right net p proof is preds valid i leaf part l h k =
    let leaf_is = All-slice_get IsLeaf net.leaves i leaf is.leaves h in
    let inputs = All-slice_get (λ (l : LeafModel). length l.inputs ≡ length net.variables) net.leaves i leaf is.inputs h in
    let pred = preds i part k in
    let over : part.pred.variables ≡ length leaf.inputs = pred.0 ∙ sym inputs in
    let part_is = valid.leaves i leaf part h k in
    record {
      valid = part_is;
      on_true = closes_right leaf part.pred true part.on_true leaf_is over pred.1 part_is.on_true;
      on_false = closes_right leaf part.pred false part.on_false leaf_is over pred.1 part_is.on_false;
    }

pub sound : IsSound
sound net p proof is preds valid =
    right_by net p proof is valid (valid_right net p proof is preds valid)
