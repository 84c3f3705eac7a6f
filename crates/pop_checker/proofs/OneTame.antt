-- One layer for each leaf is tame, and nothing has to be compared for that.
use Rattle.std.proofs.Common.{◌≡◌, ◌≤◌, List, [], ◌∷◌, length, arith}
use Rattle.pop_leaf.specs.LeafModel.{LeafModel}
use Rattle.pop_leaf.proofs.Quiet.{All-slice_get}
use Rattle.cert_base.specs.declared.layer.Layer.{Layer}
use Rattle.cert_base.specs.declared.proof.LeafProof.{LeafProof}
use Rattle.cert_layers.specs.declared.work.TheConstants.{TAME_WORK_LIMIT}
use Rattle.cert_layers.specs.TameWork.{tame_work}
use Rattle.theory_tame.proofs.OneLayer.{one_layer_tame}
use Rattle.pop_checker.specs.TameEach.{OneLayerEachIsTame}

no_work : (leaf : LeafModel) (layers : List Layer) → length layers ≡ 1 → tame_work leaf layers ≤ TAME_WORK_LIMIT
no_work leaf [] one = absurd (omega (arith, one))
no_work leaf (layer ∷ []) one = omega arith
no_work leaf (layer ∷ other ∷ layers) one = absurd (omega (arith, one))

pub one_each_tame : OneLayerEachIsTame
one_each_tame net proof one i leaf part h k =
    let here : length part.layers ≡ 1 = All-slice_get (λ (q : LeafProof). length q.layers ≡ 1) proof.leaves i part one k in
    record { tame = one_layer_tame leaf part.layers here; in_time = no_work leaf part.layers here }
