-- The proof of a built leaf of `Less` is valid.
use Rattle.std.proofs.Common.{◌≡◌, ◌∙◌, ap, sym, subst, Bool, true, false, ℕ, ◌≤◌, List, length, map}
use Rattle.pop_leaf.specs.LeafModel.{LeafModel}
use Rattle.pres_ast.specs.PredTree.{LessThan}
use Rattle.pres_ast.specs.PredModel.{PredModel}
use Rattle.cert_base.specs.declared.layer.Layer.{Layer}
use Rattle.cert_base.specs.declared.node.Node.{Node}
use Rattle.cert_base.specs.declared.proof.LeafProof.{LeafProof}
use Rattle.std.specs.Prelude.{ℤ, AllPairs}
use Rattle.std.specs.List.{range_with_len}
use Rattle.std.proofs.lemmas.List.FromFn.{length-map-range_with_len}
use Rattle.pop_leaf.specs.Reaction.{Differ}
use Rattle.cert_base.specs.ProofBound.{layers_bound}
use Rattle.cert_base.specs.ProofLimits.{IsLeafProofWithin}
use Rattle.cert_base.specs.ValidProof.{ValidLeafProof}
use Rattle.comp_threshold.specs.ThresholdLeaf.{threshold_width, place_of_value, threshold_state_count, threshold_state_name, threshold_output, threshold_leaf_of}
use Rattle.comp_threshold.specs.ThresholdProof.{threshold_part, threshold_layers, threshold_tree}
use Rattle.comp_threshold.specs.Built.{IsThreshold}
use Rattle.comp_threshold.proofs.Trees.{tree-true, tree-false}
use Rattle.comp_threshold.proofs.Layers.{layers-valid, layers-tame}
use Rattle.cert_base.specs.TameLayers.{TameLayers}
use Rattle.comp_threshold.proofs.Formed.{threshold-formed, threshold-few, built-is}
use Rattle.comp_threshold.proofs.Within.{threshold-within}
use Rattle.comp_threshold.proofs.Steps.{steps_are}
use Rattle.pop_io.specs.declared.names.TheConstants.{VARIABLE_LIMIT}
use Rattle.comp_threshold.specs.declared.limits.TheConstants.{WIDTH_LIMIT}

pub threshold-valid : (coefs : List ℤ) (bound : ℤ) → 1 ≤ length coefs → length coefs ≤ VARIABLE_LIMIT → threshold_width coefs bound ≤ WIDTH_LIMIT → ValidLeafProof (threshold_leaf_of coefs bound) (threshold_part coefs bound)
threshold-valid coefs bound some few narrow =
    let formed = threshold-formed coefs bound some few narrow in
    let facts = threshold-few coefs bound few narrow in
    record {
      layers = layers-valid (threshold_width coefs bound) (place_of_value (threshold_width coefs bound) bound) (map (place_of_value (threshold_width coefs bound)) coefs);
      on_true = tree-true coefs bound formed facts;
      on_false = tree-false coefs bound formed facts;
    }

-- the outputs as the code sees them
pub outputs-are : (coefs : List ℤ) (bound : ℤ) (s t : ℕ) (leaf : LeafModel) → s ≡ threshold_width coefs bound → t ≡ place_of_value s bound → leaf ≡ threshold_leaf_of coefs bound → leaf.outputs ≡ map (threshold_output s t) (range_with_len 0 (threshold_state_count s))
outputs-are coefs bound s t leaf es et el = ap (λ (l : LeafModel). l.outputs) (el ∙ sym (built-is coefs bound s t es et))

pub states-are : (coefs : List ℤ) (bound : ℤ) (s : ℕ) (leaf : LeafModel) → s ≡ threshold_width coefs bound → leaf ≡ threshold_leaf_of coefs bound → length leaf.states ≡ threshold_state_count s
states-are coefs bound s leaf es el =
    ap (λ (l : LeafModel). length l.states) el ∙ length-map-range_with_len (threshold_state_name (threshold_width coefs bound)) 0 (threshold_state_count (threshold_width coefs bound)) ∙ ap threshold_state_count (sym es)

-- the leaf and the proof as the code puts them together
pub whole-valid : (coefs : List ℤ) (bound : ℤ) (s t : ℕ) (leaf : LeafModel) (pred : PredModel) (layers : List Layer) (on_true on_false : List Node) → s ≡ threshold_width coefs bound → t ≡ place_of_value s bound → leaf ≡ threshold_leaf_of coefs bound → AllPairs Differ leaf.moves → pred ≡ record { variables = length coefs; tree = LessThan coefs bound } → layers ≡ threshold_layers leaf s → on_true ≡ threshold_tree leaf s t true → on_false ≡ threshold_tree leaf s t false → 1 ≤ length coefs → length coefs ≤ VARIABLE_LIMIT → s ≤ WIDTH_LIMIT → IsThreshold coefs bound leaf (record { pred = pred; layers = layers; on_true = on_true; on_false = on_false })
whole-valid coefs bound s t leaf pred layers on_true on_false es et el single ep ey ea eb some few narrow =
    let place_is : t ≡ place_of_value (threshold_width coefs bound) bound = et ∙ ap (λ k. place_of_value k bound) es in
    let layers_is : layers ≡ threshold_layers (threshold_leaf_of coefs bound) (threshold_width coefs bound) = ey ∙ ap (λ l. threshold_layers l s) el ∙ ap (threshold_layers (threshold_leaf_of coefs bound)) es in
    let tree_is : (b : Bool) → threshold_tree leaf s t b ≡ threshold_tree (threshold_leaf_of coefs bound) (threshold_width coefs bound) (place_of_value (threshold_width coefs bound) bound) b = λ b. ap (λ l. threshold_tree l s t b) el ∙ ap (λ k. threshold_tree (threshold_leaf_of coefs bound) k t b) es ∙ ap (λ k. threshold_tree (threshold_leaf_of coefs bound) (threshold_width coefs bound) k b) place_is in
    let part : PredModel → List Layer → List Node → List Node → LeafProof = λ p y a b. record { pred = p; layers = y; on_true = a; on_false = b } in
    let part_is : part pred layers on_true on_false ≡ threshold_part coefs bound = ap (λ p. part p layers on_true on_false) ep ∙ ap (λ y. part (record { variables = length coefs; tree = LessThan coefs bound }) y on_true on_false) layers_is ∙ ap (λ a. part (record { variables = length coefs; tree = LessThan coefs bound }) (threshold_layers (threshold_leaf_of coefs bound) (threshold_width coefs bound)) a on_false) (ea ∙ tree_is true) ∙ ap (λ b. part (record { variables = length coefs; tree = LessThan coefs bound }) (threshold_layers (threshold_leaf_of coefs bound) (threshold_width coefs bound)) (threshold_tree (threshold_leaf_of coefs bound) (threshold_width coefs bound) (place_of_value (threshold_width coefs bound) bound) true) b) (eb ∙ tree_is false) in
    let w : threshold_width coefs bound ≤ WIDTH_LIMIT = subst (λ k. k ≤ WIDTH_LIMIT) es narrow in
    record {
      leaf_is = el;
      pred_is = ep;
      valid = subst (λ l. ValidLeafProof l (part pred layers on_true on_false)) (sym el) (subst (ValidLeafProof (threshold_leaf_of coefs bound)) (sym part_is) (threshold-valid coefs bound some few w));
      bound = ap layers_bound layers_is ∙ steps_are (threshold_leaf_of coefs bound) (threshold_width coefs bound);
      within = subst (IsLeafProofWithin (length coefs)) (sym part_is) (threshold-within coefs bound some few w);
      tame = subst (λ l. TameLayers l layers) (sym el) (subst (TameLayers (threshold_leaf_of coefs bound)) (sym layers_is) (layers-tame (threshold_width coefs bound) (place_of_value (threshold_width coefs bound) bound) (map (place_of_value (threshold_width coefs bound)) coefs)));
      single = single;
    }
