use Rattle.cert_tree.proofs.ClosedWalk.{Closes-unrefused, unrefused-Closes}
use Rattle.cert_tree.proofs.FewFacts.{base_few}
use Rattle.cert_tree.proofs.law.refusal_law.Goals as goal

pub returns : goal.returns
returns c = λ leaf p value nodes is.
    (Closes-unrefused leaf p value nodes, unrefused-Closes leaf p value nodes (base_few leaf p value is))
