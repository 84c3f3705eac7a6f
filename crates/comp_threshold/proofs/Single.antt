-- No two moves of a built leaf of `Less` take the same states; its trees are within the limits.
use Rattle.std.proofs.Common.{inl, inr, ℕ, ◌+◌, ◌-◌, map, arith}
use Rattle.std.specs.Prelude.{All, AllPairs, flat_map}
use Rattle.std.specs.List.{range_with_len}
use Rattle.std.proofs.lemmas.List.Elements.{All-map, All-filter}
use Rattle.std.proofs.lemmas.List.Kept.{AllPairs-filter}
use Rattle.pop_leaf.specs.Reaction.{Differ}
use Rattle.comp_trees.proofs.Members.{all_flat}
use Rattle.comp_trees.proofs.SortedLayers.{AllPairs-append}
use Rattle.comp_trees.proofs.Single.{pairs_map, pairs_flat, differ-by}
use Rattle.comp_threshold.specs.ThresholdLeaf.{span_of, threshold_leader_move, alters_states, threshold_pairs, threshold_turns, threshold_moves}
use Rattle.base_laws.proofs.Ranges.{all_range}

pub moves-single : (s t : ℕ) → AllPairs Differ (threshold_moves s t)
moves-single s t =
    AllPairs-append Differ (flat_map (threshold_pairs s t) (range_with_len 0 (span_of s))) (flat_map (threshold_turns s t) (range_with_len 0 (span_of s))) pairs turns both
  where
    pairs : AllPairs Differ (flat_map (threshold_pairs s t) (range_with_len 0 (span_of s)))
    pairs =
        pairs_flat Differ (threshold_pairs s t) 0 (span_of s)
        (λ p l m. pairs_map Differ (threshold_leader_move s t p) p (span_of s - p) (λ i j k n o x y. differ-by p i p j (inr (λ e. omega arith)) (inl (λ e. omega arith))))
        (λ p r l m k. All-map (λ x. All (Differ x) (threshold_pairs s t r)) (threshold_leader_move s t p) (range_with_len p (span_of s - p)) (all_range (λ q. All (Differ (threshold_leader_move s t p q)) (threshold_pairs s t r)) p (span_of s - p) (λ q h o. All-map (Differ (threshold_leader_move s t p q)) (threshold_leader_move s t r) (range_with_len r (span_of s - r)) (all_range (λ v. Differ (threshold_leader_move s t p q) (threshold_leader_move s t r v)) r (span_of s - r) (λ v a b x y. differ-by p q r v (inl (λ e. omega arith)) (inl (λ e. omega arith)))))))

    turns : AllPairs Differ (flat_map (threshold_turns s t) (range_with_len 0 (span_of s)))
    turns =
        pairs_flat Differ (threshold_turns s t) 0 (span_of s)
        (λ p l m. AllPairs-filter Differ alters_states (map (threshold_leader_move s t p) (range_with_len (span_of s) (span_of s + span_of s))) (pairs_map Differ (threshold_leader_move s t p) (span_of s) (span_of s + span_of s) (λ i j k n o x y. differ-by p i p j (inr (λ e. omega arith)) (inl (λ e. omega arith)))))
        (λ p r l m k. All-filter alters_states (λ x. All (Differ x) (threshold_turns s t r)) (map (threshold_leader_move s t p) (range_with_len (span_of s) (span_of s + span_of s))) (All-map (λ x. All (Differ x) (threshold_turns s t r)) (threshold_leader_move s t p) (range_with_len (span_of s) (span_of s + span_of s)) (all_range (λ q. All (Differ (threshold_leader_move s t p q)) (threshold_turns s t r)) (span_of s) (span_of s + span_of s) (λ q h o. All-filter alters_states (Differ (threshold_leader_move s t p q)) (map (threshold_leader_move s t r) (range_with_len (span_of s) (span_of s + span_of s))) (All-map (Differ (threshold_leader_move s t p q)) (threshold_leader_move s t r) (range_with_len (span_of s) (span_of s + span_of s)) (all_range (λ v. Differ (threshold_leader_move s t p q) (threshold_leader_move s t r v)) (span_of s) (span_of s + span_of s) (λ v a b x y. differ-by p q r v (inl (λ e. omega arith)) (inl (λ e. omega arith)))))))))

    both : All (λ x. All (Differ x) (flat_map (threshold_turns s t) (range_with_len 0 (span_of s)))) (flat_map (threshold_pairs s t) (range_with_len 0 (span_of s)))
    both =
        all_flat (λ x. All (Differ x) (flat_map (threshold_turns s t) (range_with_len 0 (span_of s)))) (threshold_pairs s t) (range_with_len 0 (span_of s)) (all_range (λ p. All (λ x. All (Differ x) (flat_map (threshold_turns s t) (range_with_len 0 (span_of s)))) (threshold_pairs s t p)) 0 (span_of s) (λ p l m. All-map (λ x. All (Differ x) (flat_map (threshold_turns s t) (range_with_len 0 (span_of s)))) (threshold_leader_move s t p) (range_with_len p (span_of s - p)) (all_range (λ q. All (Differ (threshold_leader_move s t p q)) (flat_map (threshold_turns s t) (range_with_len 0 (span_of s)))) p (span_of s - p) (λ q h o. all_flat (Differ (threshold_leader_move s t p q)) (threshold_turns s t) (range_with_len 0 (span_of s)) (all_range (λ r. All (Differ (threshold_leader_move s t p q)) (threshold_turns s t r)) 0 (span_of s) (λ r a b. All-filter alters_states (Differ (threshold_leader_move s t p q)) (map (threshold_leader_move s t r) (range_with_len (span_of s) (span_of s + span_of s))) (All-map (Differ (threshold_leader_move s t p q)) (threshold_leader_move s t r) (range_with_len (span_of s) (span_of s + span_of s)) (all_range (λ v. Differ (threshold_leader_move s t p q) (threshold_leader_move s t r v)) (span_of s) (span_of s + span_of s) (λ v c d x y. differ-by p q r v (inr (λ e. omega arith)) (inl (λ e. omega arith)))))))))))
