-- HushedNet: the net in which each leaf keeps the moves of its layers alone, and all others are silent.
use Rattle.std.specs.Prelude.{List, [], ◌∷◌}
use Rattle.pop_leaf.specs.LeafModel.{LeafModel}
use Rattle.pop_leaf.specs.NetModel.{NetModel}
use Rattle.cert_base.specs.declared.proof.LeafProof.{LeafProof}
use Rattle.cert_base.specs.declared.proof.Proof.{Proof}
use Rattle.cert_sets.specs.Layered.{layered}

abbrev pub hushed_leaves : List LeafModel → List LeafProof → List LeafModel
hushed_leaves [] parts = []
hushed_leaves (leaf ∷ leaves) [] = leaf ∷ leaves
hushed_leaves (leaf ∷ leaves) (part ∷ parts) = layered leaf part.layers ∷ hushed_leaves leaves parts

abbrev pub hushed_net : NetModel → Proof → NetModel
hushed_net net proof =
    record { variables = net.variables; leaves = hushed_leaves net.leaves proof.leaves; combine = net.combine }
