-- No two moves of a built leaf of `Rest` take the same states.
use Rattle.std.proofs.Common.{◌≢◌, inl, inr, ℕ, ◌-◌, ◌<◌, ◌≤◌, map, arith}
use Rattle.std.specs.Prelude.{All, AllPairs, flat_map, not, ◌==◌}
use Rattle.std.specs.List.{range_with_len}
use Rattle.std.proofs.lemmas.List.Elements.{All-map}
use Rattle.pop_leaf.specs.Reaction.{Differ}
use Rattle.comp_trees.proofs.Members.{all_flat}
use Rattle.comp_trees.proofs.SortedLayers.{AllPairs-append}
use Rattle.comp_trees.proofs.Single.{pairs_map, pairs_flat, differ-by}
use Rattle.comp_remainder.specs.RemainderLeaf.{remainder_follower, leader_meeting, follower_turn, remainder_pairs, remainder_moves}
use Rattle.comp_remainder.proofs.MoveLists.{follower-above}
use Rattle.base_laws.proofs.Ranges.{all_range}

apart : (m p q : ℕ) → p < m → m ≤ q → p ≢ q
apart m p q l k e = omega arith

pub moves-single : (m rest : ℕ) → AllPairs Differ (remainder_moves m rest)
moves-single m rest =
    AllPairs-append Differ (flat_map (remainder_pairs m rest) (range_with_len 0 m)) (map (follower_turn m rest) (range_with_len 0 m)) pairs turns both
  where
    above : (p : ℕ) → m ≤ remainder_follower m (not (p == rest))
    above p = follower-above m (not (p == rest))

    pairs : AllPairs Differ (flat_map (remainder_pairs m rest) (range_with_len 0 m))
    pairs =
        pairs_flat Differ (remainder_pairs m rest) 0 m
        (λ p l k. pairs_map Differ (leader_meeting m rest p) p (m - p) (λ i j h n o x y. differ-by p i p j (inr (λ e. omega arith)) (inl (λ e. omega arith))))
        (λ p r l k n. All-map (λ x. All (Differ x) (remainder_pairs m rest r)) (leader_meeting m rest p) (range_with_len p (m - p)) (all_range (λ q. All (Differ (leader_meeting m rest p q)) (remainder_pairs m rest r)) p (m - p) (λ q h o. All-map (Differ (leader_meeting m rest p q)) (leader_meeting m rest r) (range_with_len r (m - r)) (all_range (λ v. Differ (leader_meeting m rest p q) (leader_meeting m rest r v)) r (m - r) (λ v a b x y. differ-by p q r v (inl (λ e. omega arith)) (inl (λ e. omega arith)))))))

    turns : AllPairs Differ (map (follower_turn m rest) (range_with_len 0 m))
    turns =
        pairs_map Differ (follower_turn m rest) 0 m (λ i j h n o x y. differ-by i (remainder_follower m (not (i == rest))) j (remainder_follower m (not (j == rest))) (inl (λ e. omega arith)) (inl (apart m i (remainder_follower m (not (j == rest))) (omega arith) (above j))))

    both : All (λ x. All (Differ x) (map (follower_turn m rest) (range_with_len 0 m))) (flat_map (remainder_pairs m rest) (range_with_len 0 m))
    both =
        all_flat (λ x. All (Differ x) (map (follower_turn m rest) (range_with_len 0 m))) (remainder_pairs m rest) (range_with_len 0 m) (all_range (λ p. All (λ x. All (Differ x) (map (follower_turn m rest) (range_with_len 0 m))) (remainder_pairs m rest p)) 0 m (λ p l k. All-map (λ x. All (Differ x) (map (follower_turn m rest) (range_with_len 0 m))) (leader_meeting m rest p) (range_with_len p (m - p)) (all_range (λ q. All (Differ (leader_meeting m rest p q)) (map (follower_turn m rest) (range_with_len 0 m))) p (m - p) (λ q h o. All-map (Differ (leader_meeting m rest p q)) (follower_turn m rest) (range_with_len 0 m) (all_range (λ r. Differ (leader_meeting m rest p q) (follower_turn m rest r)) 0 m (λ r a b x y. differ-by p q r (remainder_follower m (not (r == rest))) (inr (apart m q (remainder_follower m (not (r == rest))) (omega arith) (above r))) (inl (apart m p (remainder_follower m (not (r == rest))) (omega arith) (above r)))))))))
