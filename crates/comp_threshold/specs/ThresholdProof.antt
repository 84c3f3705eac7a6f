-- ThresholdProof: the trees and layers for a built leaf of `Less`.
use Rattle.std.specs.Prelude.{length, ℕ, ◌+◌, ◌-◌, Bool, true, false, nat_lt, if◌then◌else◌, List, [], ◌∷◌, ℤ, pos}
use Rattle.std.specs.Prelude.{neg_ℤ, map}
use Rattle.std.specs.List.{range_with_len}
use Rattle.cert_base.specs.declared.layer.Layer.{Layer}
use Rattle.comp_trees.specs.SortedLayers.{sorted_layers, leader_kind}
use Rattle.pop_leaf.specs.LeafModel.{LeafModel}
use Rattle.cert_base.specs.declared.node.Node.{Node}
use Rattle.cert_base.specs.FactsAndCases.{differs, indicator}
use Rattle.comp_trees.specs.LeaderTree.{company_of, mix_of_leader, wrong_mix, value_mix, weighed_node, leader_tree}
use Rattle.comp_threshold.specs.ThresholdLeaf.{span_of, place_of_value, threshold_place, threshold_output}
use Rattle.comp_threshold.specs.ThresholdLeaf.{threshold_state_count}
use Rattle.comp_threshold.specs.ThresholdLeaf.{threshold_width, threshold_value, threshold_leaf_of}
use Rattle.pres_ast.specs.PredTree.{LessThan}
use Rattle.cert_base.specs.declared.proof.LeafProof.{LeafProof}

-- the value of a state, negated in the tree for false
abbrev pub signed_value : Bool → ℕ → ℕ → ℤ
signed_value b s q = if b then threshold_value s q else neg_ℤ (threshold_value s q)

-- the node of the leader p in the tree for b, by values and by a wrong output
abbrev pub threshold_value_node : LeafModel → ℕ → Bool → ℕ → Node
threshold_value_node leaf s b p =
    weighed_node (mix_of_leader leaf (company_of leaf p) (value_mix (signed_value b s) (pos 1) p) p)

abbrev pub threshold_wrong_node : LeafModel → Bool → ℕ → Node
threshold_wrong_node leaf b p = weighed_node (mix_of_leader leaf (company_of leaf p) (wrong_mix leaf b) p)

abbrev pub threshold_leader_node : LeafModel → (s t : ℕ) → Bool → ℕ → Node
threshold_leader_node leaf s t b p =
    if differs b (threshold_output s t p)
    then threshold_value_node leaf s b p
    else threshold_wrong_node leaf b p

abbrev pub threshold_tree : LeafModel → (s t : ℕ) → Bool → List Node
threshold_tree leaf s t b = leader_tree leaf (span_of s) (threshold_leader_node leaf s t b)

-- ---- the layers' weights

abbrev pub threshold_distance : ℕ → ℕ → ℕ
threshold_distance a b = (a - b) + (b - a)

-- s + 1 for a leader, and the size of a follower's value
abbrev pub threshold_first_weight : ℕ → ℕ → ℤ
threshold_first_weight s q =
    if nat_lt q (span_of s) then pos (s + 1) else pos (threshold_distance s (threshold_place s q))

-- 1 for each follower with the bit false, and for each with the bit true
abbrev pub threshold_false_weight : ℕ → ℕ → ℤ
threshold_false_weight s q =
    if nat_lt q (span_of s) then pos 0 else (if nat_lt q (span_of s + span_of s) then pos 1 else pos 0)

abbrev pub threshold_true_weight : ℕ → ℕ → ℤ
threshold_true_weight s q = if nat_lt q (span_of s + span_of s) then pos 0 else pos 1

abbrev pub threshold_weights : ℕ → (ℕ → ℤ) → List ℤ
threshold_weights s weight = map weight (range_with_len 0 (threshold_state_count s))

abbrev pub threshold_layers : LeafModel → ℕ → List Layer
threshold_layers leaf s =
    sorted_layers leaf.moves (leader_kind (span_of s)) 0
    (threshold_weights s (threshold_first_weight s)
    ∷ threshold_weights s (threshold_false_weight s)
    ∷ threshold_weights s (threshold_true_weight s)
    ∷ [])

-- -1 for a state with another output than b, and 0 for the others
abbrev pub wrong_sign : (s t : ℕ) → Bool → ℕ → ℤ
wrong_sign s t b q = neg_ℤ (indicator (differs b (threshold_output s t q)))

-- the whole proof of the leaf
abbrev pub threshold_part : List ℤ → ℤ → LeafProof
threshold_part coefs bound =
    let leaf = threshold_leaf_of coefs bound in
    let s = threshold_width coefs bound in
    record {
      pred = record { variables = length coefs; tree = LessThan coefs bound };
      layers = threshold_layers leaf s;
      on_true = threshold_tree leaf s (place_of_value s bound) true;
      on_false = threshold_tree leaf s (place_of_value s bound) false;
    }
