-- One layer is tame: no move is of a later one.
use Rattle.std.proofs.Common.{◌≡◌, ℕ, ◌<◌, List, length, arith}
use Rattle.std.proofs.lemmas.Option.{slice_get_within}
use Rattle.pop_leaf.specs.declared.leaf.Move.{Move}
use Rattle.pop_leaf.specs.LeafModel.{LeafModel}
use Rattle.cert_base.specs.declared.layer.Layer.{Layer}
use Rattle.cert_base.specs.ValidLayers.{IsInLayer}
use Rattle.theory_tame.specs.Laws.{OneLayerIsTame}

no_later : (leaf : LeafModel) (layers : List Layer) → length layers ≡ 1 → (i j : ℕ) (u : Move) → i < j → IsInLayer leaf layers j u → ⊥
no_later leaf layers one i j u before at =
    let within = slice_get_within layers j at.layer at.layer_is in omega (arith, one, before, within)

pub one_layer_tame : OneLayerIsTame
one_layer_tame leaf layers one =
    record {
      no_rise = λ i j t u before t_at u_at. absurd (no_later leaf layers one i j u before u_at);
      same_states = λ i j t u before t_at u_at same. absurd (no_later leaf layers one i j u before u_at);
      no_waking = λ i j t u before t_at u_at. absurd (no_later leaf layers one i j u before u_at);
    }
