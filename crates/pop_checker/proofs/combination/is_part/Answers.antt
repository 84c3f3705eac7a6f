use Rattle.std.proofs.Common.{◌∙◌, sym, [], pos}
use Rattle.std.proofs.lemmas.List.{get_or-map}
use Rattle.pres_ast.specs.PredTree.{LessThan}
use Rattle.cert_base.specs.declared.proof.LeafProof.{LeafProof}
use Rattle.pop_checker.proofs.combination.is_part.Goals as goal

pub returns : goal.returns
returns c =
    let same = get_or-map (λ (part : LeafProof). part.pred.tree) c.args.parts.now c.args.leaf c.index-parts-leaf.result (LessThan [] (pos 0)) c.requires ∙ sym c.tree.ensures.value in
    ((λ e. same ∙ c.same.ensures.0 e), (λ e. c.same.ensures.1 (sym same ∙ e)))
