-- The chosen layers are valid for the hushed net, and few.
use Rattle.std.proofs.Common.{◌≡◌, ℕ, ◌<◌, ◌≤◌, Bool, true, false, List, length, map, ap, sym, subst, ◌∙◌, arith}
use Rattle.std.specs.Prelude.{Some, slice_get, All}
use Rattle.std.specs.Option.{option_map}
use Rattle.std.proofs.lemmas.List.{length-map}
use Rattle.std.proofs.lemmas.List.Elements.{All-map, All-weaker}
use Rattle.std.proofs.lemmas.Option.{slice_get_within, slice_get-map}
use Rattle.pop_leaf.specs.declared.leaf.Move.{Move}
use Rattle.pop_leaf.specs.LeafModel.{LeafModel}
use Rattle.pop_leaf.specs.NetModel.{NetModel}
use Rattle.pop_leaf.proofs.HushedMoves as moves
use Rattle.base_laws.proofs.Options.{item_within, same_value}
use Rattle.cert_base.specs.declared.layer.Layer.{Layer}
use Rattle.cert_base.specs.declared.proof.LeafProof.{LeafProof}
use Rattle.cert_base.specs.declared.stable.LeafGoals.{LeafGoals}
use Rattle.cert_base.specs.declared.stable.StablePart.{StablePart}
use Rattle.cert_base.specs.declared.stable.StablePart.TheVariants.{Silent, Stable}
use Rattle.cert_base.specs.declared.stable.StableProof.{StableProof}
use Rattle.cert_base.specs.declared.limits.TheConstants.{LAYER_LIMIT}
use Rattle.cert_base.specs.ProofLimits.{IsLayerWithin}
use Rattle.cert_base.specs.StableProof.{IsPartWithin}
use Rattle.cert_base.specs.ValidLayers.{moves_of_layers, IsInLayer, ValidLayers}
use Rattle.cert_layers.specs.LayerFaults.{IsWeight}
use Rattle.cert_layers.proofs.NotLower.{contains-listed}
use Rattle.cert_sets.specs.Layered.{layered}
use Rattle.cert_goals.specs.ValidGoal.{ValidGoal}
use Rattle.pop_checker.specs.ValidStable.{ValidPart}
use Rattle.pop_settle.specs.Settling.{AreFewLayers, HasLayers}
use Rattle.pres_ast.specs.PredicateValue.{predicate_value}
use Rattle.pop_settle.specs.Chosen.{layers_for, layers_at, part_at, proof_at}
use Rattle.pop_settle.specs.HushedNet.{hushed_net}
use Rattle.pop_settle.specs.SettlesGoals.{CanSettle}
use Rattle.pop_settle.proofs.HushedLeaves.{hushed_length, hushed_of}

-- ---- a leaf that falls silent: what its layers don't list is silent already

module _ (leaf : LeafModel) (layers : List Layer) where
  abbrev in_given : (i : ℕ) (t : Move) → IsInLayer (layered leaf layers) layers i t → IsInLayer leaf layers i t
  in_given i t at =
      let kept = moves.hushed_move leaf (moves_of_layers layers) at.number t at.move_is at.non_silent in
      record { layer = at.layer; number = at.number; layer_is = at.layer_is; lists = at.lists; move_is = kept.move_is; non_silent = at.non_silent }

  in_hushed : (i : ℕ) (t : Move) → IsInLayer leaf layers i t → IsInLayer (layered leaf layers) layers i t
  in_hushed i t at =
      let listed = contains-listed layers i at.number at.layer at.layer_is at.lists in
      let kept = moves.kept_move leaf (moves_of_layers layers) at.number t (record { kept_is = listed; move_is = at.move_is; non_silent = at.non_silent }) in
      record { layer = at.layer; number = at.number; layer_is = at.layer_is; lists = at.lists; move_is = kept.0; non_silent = at.non_silent }

  still_valid : ValidLayers leaf layers → ValidLayers (layered leaf layers) layers
  still_valid v =
      record {
        weights = v.weights;
        in_range = subst (λ (n : ℕ). All (λ number. number < n) (moves_of_layers layers)) (sym (moves.hushed_length (moves_of_layers layers) 0 leaf.moves)) v.in_range;
        once = v.once;
        all = λ number t h loud. (moves.hushed_move leaf (moves_of_layers layers) number t h loud).kept_is;
        lower = λ i t at. v.lower i t (in_given i t at);
        wakes_none = λ i j t u l at other.
            let woken = v.wakes_none i j t u l (in_given i t at) (in_given j u other) in
            (woken.0, woken.1, woken.2, in_hushed woken.0 woken.1 woken.3, woken.4);
      }

-- ---- a part

goal_valid : (leaf : LeafModel) (goals : LeafGoals) (value : Bool) → ValidGoal leaf goals.pred true goals.on_true → ValidGoal leaf goals.pred false goals.on_false → ValidLayers (layered leaf (layers_for goals value)) (layers_for goals value)
goal_valid leaf goals true yes_valid no_valid = yes_valid.layers
goal_valid leaf goals false yes_valid no_valid = no_valid.layers

part_valid : (leaf : LeafModel) (part : StablePart) (counts : List ℕ) → ValidPart leaf part → ValidLayers (layered leaf (layers_at counts part)) (layers_at counts part)
part_valid leaf (Silent part) counts valid = still_valid leaf part.layers valid.layers
part_valid leaf (Stable goals) counts valid = goal_valid leaf goals (predicate_value goals.pred.tree counts) valid.0 valid.1

abbrev AreFew : List Layer → Type 0
AreFew layers = (length layers ≤ LAYER_LIMIT) × All (λ (layer : Layer). All IsWeight layer.weights) layers

small_layers : (layers : List Layer) → All IsLayerWithin layers → All (λ (layer : Layer). All IsWeight layer.weights) layers
small_layers layers all = All-weaker IsLayerWithin (λ (layer : Layer). All IsWeight layer.weights) (λ layer within. within.weights) layers all

goal_few : (n : ℕ) (goals : LeafGoals) (value : Bool) → IsPartWithin n (Stable goals) → AreFew (layers_for goals value)
goal_few n goals true within = (within.on_true.layer_count, small_layers goals.on_true.layers within.on_true.layers)
goal_few n goals false within = (within.on_false.layer_count, small_layers goals.on_false.layers within.on_false.layers)

part_few : (n : ℕ) (counts : List ℕ) (part : StablePart) → IsPartWithin n part → AreFew (layers_at counts part)
part_few n counts (Silent part) within = (within.layer_count, small_layers part.layers within.layers)
part_few n counts (Stable goals) within = goal_few n goals (predicate_value goals.pred.tree counts) within

-- the part of which a chosen part is
pub part_of : (parts : List StablePart) (counts : List ℕ) (i : ℕ) (chosen : LeafProof) → slice_get (map (part_at counts) parts) i ≡ Some chosen → (part : StablePart) × (slice_get parts i ≡ Some part) × (part_at counts part ≡ chosen)
part_of parts counts i chosen h =
    let within = slice_get_within (map (part_at counts) parts) i chosen h in
    let lengths = length-map parts (part_at counts) in
    let part = item_within parts i (omega (arith, within, lengths)) in
    (part.0, part.1, same_value (slice_get (map (part_at counts) parts) i) (part_at counts part.0) chosen (slice_get-map (part_at counts) parts i ∙ ap (option_map (part_at counts)) part.1) h)

-- ---- the proof

module _ (net : NetModel) (proof : StableProof) (counts : List ℕ) (can : CanSettle net proof counts) where
  lengths : length (proof_at counts proof).leaves ≡ length (hushed_net net (proof_at counts proof)).leaves
  lengths = length-map proof.leaves (part_at counts) ∙ can.within.one_each ∙ sym (hushed_length net.leaves (proof_at counts proof).leaves)

  layers_valid : (i : ℕ) (made : LeafModel) (chosen : LeafProof) → slice_get (hushed_net net (proof_at counts proof)).leaves i ≡ Some made → slice_get (proof_at counts proof).leaves i ≡ Some chosen → ValidLayers made chosen.layers
  layers_valid i made chosen h k =
      let leaf = hushed_of net.leaves (proof_at counts proof).leaves i made chosen h k in
      let part = part_of proof.leaves counts i chosen k in
      let same : layers_at counts part.0 ≡ chosen.layers = ap (λ (p : LeafProof). p.layers) part.2 in
      let valid = can.valid in
      let is = part_valid leaf.0 part.0 counts (valid i leaf.0 part.0 (slice_get_within net.leaves i leaf.0 leaf.1) leaf.1 part.1) in
      subst (λ (l : LeafModel). ValidLayers l chosen.layers) leaf.2
      (subst (λ (layers : List Layer). ValidLayers (layered leaf.0 layers) layers) same is)

  few_layers : AreFewLayers (proof_at counts proof)
  few_layers =
      All-map (λ (part : LeafProof). AreFew part.layers) (part_at counts) proof.leaves
      (All-weaker (IsPartWithin (length net.variables)) (λ (part : StablePart). AreFew (layers_at counts part)) (part_few (length net.variables) counts) proof.leaves can.within.parts)

  pub chosen_layers : HasLayers (hushed_net net (proof_at counts proof)) (proof_at counts proof)
  chosen_layers = record { layers = record { one_each = lengths; valid = layers_valid }; few = few_layers }
