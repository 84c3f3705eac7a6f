-- If no take can be made, no move of a leaf's layers is possible.
use Rattle.std.proofs.Common.{◌≡◌, ℕ, ap, ◌∙◌}
use Rattle.std.specs.Prelude.{Some, slice_get}
use Rattle.std.proofs.lemmas.Option.{slice_get-get_or}
use Rattle.pop_leaf.specs.LeafModel.{LeafModel}
use Rattle.pop_leaf.specs.NetModel.{NetModel, CrowdModel}
use Rattle.pop_leaf.specs.Laws.{NoneCanTake}
use Rattle.pop_leaf.proofs.Crowds.{none_terminal}
use Rattle.cert_base.specs.declared.proof.Proof.{Proof}
use Rattle.cert_base.specs.declared.proof.LeafProof.{LeafProof}
use Rattle.cert_base.specs.ValidLayers.{moves_of_layers}
use Rattle.cert_layers.proofs.Termination.{listed_at}
use Rattle.theory_sets.specs.Reached.{IsDeadFor}
use Rattle.pop_settle.specs.declared.take.Take.{Take}
use Rattle.pop_settle.specs.Settlement.{states_in, CanTake}

module _ (net : NetModel) (proof : Proof) (end : CrowdModel) (none : (layer place : ℕ) (take : Take) → CanTake net proof end layer place take → ⊥) (i : ℕ) (leaf : LeafModel) (part : LeafProof) (h : slice_get net.leaves i ≡ Some leaf) (k : slice_get proof.leaves i ≡ Some part) where
  none_can : NoneCanTake leaf (moves_of_layers part.layers) (states_in i end)
  none_can number a b t kept different has_p has_q =
      let at = listed_at part.layers number kept.kept_is in
      let lists = at.3 in
      none at.0 lists.0 (record { leaf = i; step = number; a = a; b = b })
      (record {
        leaf = leaf;
        part = part;
        list = at.1;
        move = t;
        leaf_is = h;
        part_is = k;
        layer_is = at.2;
        step_is = (slice_get-get_or at.1.moves lists.0 number lists.1 ∙ ap Some lists.2);
        move_is = kept.move_is;
        made = record { non_silent = kept.non_silent; different = different; first = has_p; second = has_q };
      })

  pub layers_dead : IsDeadFor leaf (moves_of_layers part.layers) (states_in i end)
  layers_dead = none_terminal leaf (moves_of_layers part.layers) (states_in i end) none_can
