-- The moves of a built leaf: what holds for each meeting holds for each move, and which of them are moves.
use Rattle.std.proofs.Common.{◌≡◌, ◌⊎◌, inl, inr, ℕ, ◌+◌, ◌-◌, ◌<◌, ◌≤◌, Bool, true, false, ◌&&◌, List, map, refl, ap, ◌∙◌, arith}
use Rattle.std.specs.Prelude.{◌==◌, nat_lt, All, Contains, flat_map}
use Rattle.std.specs.List.{range_with_len}
use Rattle.std.proofs.lemmas.Bool.{cases_lt, ne_eqb, not-true}
use Rattle.std.proofs.lemmas.List.Elements.{All-append, All-map, All-filter, Contains-append_left, Contains-append_right}
use Rattle.std.proofs.Math.Bool.{and-false}
use Rattle.pop_leaf.specs.declared.leaf.Move.{Move}
use Rattle.pop_leaf.specs.LeafModel.{silent_move, IsMoveBelow}
use Rattle.pop_leaf.specs.Reaction.{takes_states}
use Rattle.cert_base.specs.FactsAndCases.{can_meet_in}
use Rattle.cert_base.proofs.WeightedSums.{list_any-from}
use Rattle.comp_trees.proofs.Members.{all_flat, range_has, has_filter, has_flat}
use Rattle.comp_threshold.specs.ThresholdLeaf.{span_of, threshold_place, threshold_follower, joined_value, leftover, threshold_leader_move, alters_states, threshold_pairs, threshold_turns, threshold_moves, threshold_state_count, built}
use Rattle.comp_threshold.proofs.Places.{IsCut, cut, Kind, kind_of, place-below, follower-above, follower-below}
use Rattle.base_laws.proofs.Ranges.{all_range}
use Rattle.base_laws.proofs.Lists.{has_map, all_filtered}
use Rattle.pop_leaf.proofs.Silent.{same-self, same-other}
use Rattle.base_laws.proofs.Numbers.{same_turned}

-- ---- moves

-- what holds for each meeting of a leader with a state
pub all_moves : (s t : ℕ) (P : Move → Type 0) → ((p q : ℕ) → p < span_of s → q < threshold_state_count s → P (threshold_leader_move s t p q)) → All P (threshold_moves s t)
all_moves s t P f =
    All-append P (flat_map (threshold_pairs s t) (range_with_len 0 (span_of s))) (flat_map (threshold_turns s t) (range_with_len 0 (span_of s)))
    (all_flat P (threshold_pairs s t) (range_with_len 0 (span_of s)) (all_range (λ p. All P (threshold_pairs s t p)) 0 (span_of s) (λ p l m. All-map P (threshold_leader_move s t p) (range_with_len p (span_of s - p)) (all_range (λ q. P (threshold_leader_move s t p q)) p (span_of s - p) (λ q k n. f p q (omega arith) (omega arith))))))
    (all_flat P (threshold_turns s t) (range_with_len 0 (span_of s)) (all_range (λ p. All P (threshold_turns s t p)) 0 (span_of s) (λ p l m. All-filter alters_states P (map (threshold_leader_move s t p) (range_with_len (span_of s) (span_of s + span_of s))) (All-map P (threshold_leader_move s t p) (range_with_len (span_of s) (span_of s + span_of s)) (all_range (λ q. P (threshold_leader_move s t p q)) (span_of s) (span_of s + span_of s) (λ q k n. f p q (omega arith) (omega arith)))))))

-- what holds for each meeting of two leaders, and for each meeting with a follower that changes a state
pub all_moves_changing : (s t : ℕ) (P : Move → Type 0) → ((p q : ℕ) → p < span_of s → q < threshold_state_count s → (q < span_of s) ⊎ (alters_states (threshold_leader_move s t p q) ≡ true) → P (threshold_leader_move s t p q)) → All P (threshold_moves s t)
all_moves_changing s t P f =
    All-append P (flat_map (threshold_pairs s t) (range_with_len 0 (span_of s))) (flat_map (threshold_turns s t) (range_with_len 0 (span_of s)))
    (all_flat P (threshold_pairs s t) (range_with_len 0 (span_of s)) (all_range (λ p. All P (threshold_pairs s t p)) 0 (span_of s) (λ p l m. All-map P (threshold_leader_move s t p) (range_with_len p (span_of s - p)) (all_range (λ q. P (threshold_leader_move s t p q)) p (span_of s - p) (λ q k n. f p q (omega arith) (omega arith) (inl (omega arith)))))))
    (all_flat P (threshold_turns s t) (range_with_len 0 (span_of s)) (all_range (λ p. All P (threshold_turns s t p)) 0 (span_of s) (λ p l m. all_filtered alters_states P (map (threshold_leader_move s t p) (range_with_len (span_of s) (span_of s + span_of s))) (All-map (λ m. alters_states m ≡ true → P m) (threshold_leader_move s t p) (range_with_len (span_of s) (span_of s + span_of s)) (all_range (λ q. alters_states (threshold_leader_move s t p q) ≡ true → P (threshold_leader_move s t p q)) (span_of s) (span_of s + span_of s) (λ q k n c. f p q (omega arith) (omega arith) (inr c)))))))

pub has_pair : (s t p q : ℕ) → p ≤ q → q < span_of s → Contains (threshold_moves s t) (threshold_leader_move s t p q)
has_pair s t p q l m =
    Contains-append_left (flat_map (threshold_pairs s t) (range_with_len 0 (span_of s))) (flat_map (threshold_turns s t) (range_with_len 0 (span_of s))) (threshold_leader_move s t p q)
    (has_flat (threshold_pairs s t) (range_with_len 0 (span_of s)) p (threshold_leader_move s t p q) (range_has 0 (span_of s) p (omega arith) (omega arith)) (has_map (threshold_leader_move s t p) (range_with_len p (span_of s - p)) q (range_has p (span_of s - p) q l (omega arith))))

pub has_turn : (s t p q : ℕ) → p < span_of s → span_of s ≤ q → q < threshold_state_count s → alters_states (threshold_leader_move s t p q) ≡ true → Contains (threshold_moves s t) (threshold_leader_move s t p q)
has_turn s t p q l m k c =
    Contains-append_right (flat_map (threshold_pairs s t) (range_with_len 0 (span_of s))) (flat_map (threshold_turns s t) (range_with_len 0 (span_of s))) (threshold_leader_move s t p q)
    (has_flat (threshold_turns s t) (range_with_len 0 (span_of s)) p (threshold_leader_move s t p q) (range_has 0 (span_of s) p (omega arith) (omega arith)) (has_filter alters_states (map (threshold_leader_move s t p) (range_with_len (span_of s) (span_of s + span_of s))) (threshold_leader_move s t p q) (has_map (threshold_leader_move s t p) (range_with_len (span_of s) (span_of s + span_of s)) q (range_has (span_of s) (span_of s + span_of s) q m (omega arith))) c))

-- ---- a meeting

pub leader_move-cut : (s t p q : ℕ) → p < span_of s → Kind s q → IsCut s p (threshold_place s q) (joined_value s p (threshold_place s q)) (leftover s p (threshold_place s q))
leader_move-cut s t p q l kind = cut s p (threshold_place s q) (omega arith) (let m = place-below s q kind in omega arith)

pub leader_move-below : (s t p q : ℕ) → p < span_of s → q < threshold_state_count s → IsMoveBelow (threshold_state_count s) (threshold_leader_move s t p q)
leader_move-below s t p q l m =
    let is = leader_move-cut s t p q l (kind_of s q m) in
    let j = is.joined in
    let k = is.leftover in
    let bit = nat_lt (joined_value s p (threshold_place s q)) t in
    let after = follower-below s (leftover s p (threshold_place s q)) bit (omega arith) in
    (omega arith, m, omega arith, after)

-- no leader is a follower
pub not-leader : (s v p : ℕ) (bit : Bool) → p < span_of s → (p == threshold_follower s bit v) ≡ false
not-leader s v p bit l = let m = follower-above s v bit in ne_eqb p (threshold_follower s bit v) (λ e. omega arith)

-- a meeting of two leaders is not silent, and one with a follower is silent if nothing changes
pub pair-loud : (s t p q : ℕ) → p < span_of s → q < span_of s → silent_move (threshold_leader_move s t p q) ≡ false
pair-loud s t p q l m =
    let bit = nat_lt (joined_value s p (threshold_place s q)) t in
    let first = not-leader s (leftover s p (threshold_place s q)) q bit m in
    let second = not-leader s (leftover s p (threshold_place s q)) p bit l in
    let left_side : ((p == joined_value s p (threshold_place s q)) && false) ≡ false = and-false (p == joined_value s p (threshold_place s q)) in
    rw (first, second, left_side) refl

pub turn-loud : (s t p q : ℕ) → p < span_of s → alters_states (threshold_leader_move s t p q) ≡ true → silent_move (threshold_leader_move s t p q) ≡ false
turn-loud s t p q l c =
    let m = threshold_leader_move s t p q in
    let bit = nat_lt (joined_value s p (threshold_place s q)) t in
    let second : (p == m.s) ≡ false = not-leader s (leftover s p (threshold_place s q)) p bit l in
    let first : ((p == m.r) && (q == m.s)) ≡ false = ap (λ (b : Bool). b && (q == m.s)) (same_turned p m.r) ∙ ap (λ (b : Bool). (m.r == p) && b) (same_turned q m.s) ∙ not-true ((m.r == p) && (m.s == q)) c in
    rw (first, second) refl

-- ---- who can meet

pub leaders-meet : (s t p q : ℕ) (inputs : List ℕ) → p < span_of s → q < span_of s → can_meet_in (built s t inputs) p q ≡ true
leaders-meet s t p q inputs l m = go (cases_lt q p)
  where
    go : (q < p) ⊎ (p ≤ q) → can_meet_in (built s t inputs) p q ≡ true
    go (inl k) = list_any-from (takes_states p q) (threshold_moves s t) (threshold_leader_move s t q p) (has_pair s t q p (omega arith) l) (let e = pair-loud s t q p m l in let f = same-other p q in rw (e, f) refl)
    go (inr k) = list_any-from (takes_states p q) (threshold_moves s t) (threshold_leader_move s t p q) (has_pair s t p q k m) (let e = pair-loud s t p q l m in let f = same-self p q in rw (e, f) refl)

pub turned-meet : (s t p q : ℕ) (inputs : List ℕ) → p < span_of s → span_of s ≤ q → q < threshold_state_count s → alters_states (threshold_leader_move s t p q) ≡ true → can_meet_in (built s t inputs) p q ≡ true
turned-meet s t p q inputs l m k c =
    list_any-from (takes_states p q) (threshold_moves s t) (threshold_leader_move s t p q) (has_turn s t p q l m k c) (let e = turn-loud s t p q l c in let f = same-self p q in rw (e, f) refl)
