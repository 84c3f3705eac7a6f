-- The moves of a built leaf of `Rest`.
use Rattle.std.proofs.Common.{◌≡◌, ◌≢◌, ℕ, ◌+◌, ◌-◌, ◌%◌, ◌<◌, ◌≤◌, Bool, true, false, map, refl, arith}
use Rattle.std.specs.Prelude.{not, ◌==◌, All, Contains, flat_map}
use Rattle.std.specs.List.{range_with_len}
use Rattle.std.proofs.lemmas.Bool.{ne_eqb}
use Rattle.std.proofs.lemmas.List.Elements.{All-append, All-map, Contains-append_left, Contains-append_right}
use Rattle.std.proofs.Math.Bool.{and-false}
use Rattle.pop_leaf.specs.declared.leaf.Move.{Move}
use Rattle.pop_leaf.specs.LeafModel.{silent_move, same_pair}
use Rattle.comp_trees.proofs.Members.{all_flat, range_has, has_flat}
use Rattle.comp_remainder.specs.RemainderLeaf.{remainder_follower, leader_meeting, follower_turn, remainder_pairs, remainder_moves}
use Rattle.base_laws.proofs.Ranges.{all_range}
use Rattle.base_laws.proofs.Lists.{has_map}

-- what holds for each meeting and for each turn
pub all_moves : (m rest : ℕ) (P : Move → Type 0) → ((p q : ℕ) → p < m → q < m → P (leader_meeting m rest p q)) → ((p : ℕ) → p < m → P (follower_turn m rest p)) → All P (remainder_moves m rest)
all_moves m rest P f g =
    All-append P (flat_map (remainder_pairs m rest) (range_with_len 0 m)) (map (follower_turn m rest) (range_with_len 0 m))
    (all_flat P (remainder_pairs m rest) (range_with_len 0 m) (all_range (λ p. All P (remainder_pairs m rest p)) 0 m (λ p l k. All-map P (leader_meeting m rest p) (range_with_len p (m - p)) (all_range (λ q. P (leader_meeting m rest p q)) p (m - p) (λ q h n. f p q (omega arith) (omega arith))))))
    (All-map P (follower_turn m rest) (range_with_len 0 m) (all_range (λ p. P (follower_turn m rest p)) 0 m (λ p l k. g p (omega arith))))

pub has_pair : (m rest p q : ℕ) → p ≤ q → q < m → Contains (remainder_moves m rest) (leader_meeting m rest p q)
has_pair m rest p q l k =
    Contains-append_left (flat_map (remainder_pairs m rest) (range_with_len 0 m)) (map (follower_turn m rest) (range_with_len 0 m)) (leader_meeting m rest p q)
    (has_flat (remainder_pairs m rest) (range_with_len 0 m) p (leader_meeting m rest p q) (range_has 0 m p (omega arith) (omega arith)) (has_map (leader_meeting m rest p) (range_with_len p (m - p)) q (range_has p (m - p) q l (omega arith))))

pub has_turn : (m rest p : ℕ) → p < m → Contains (remainder_moves m rest) (follower_turn m rest p)
has_turn m rest p l =
    Contains-append_right (flat_map (remainder_pairs m rest) (range_with_len 0 m)) (map (follower_turn m rest) (range_with_len 0 m)) (follower_turn m rest p)
    (has_map (follower_turn m rest) (range_with_len 0 m) p (range_has 0 m p (omega arith) (omega arith)))

pub follower-above : (m : ℕ) (bit : Bool) → m ≤ remainder_follower m bit
follower-above m true = omega arith
follower-above m false = omega arith

pub follower-below : (m : ℕ) (bit : Bool) → remainder_follower m bit < m + 2
follower-below m true = omega arith
follower-below m false = omega arith

pub followers-apart : (m : ℕ) (bit : Bool) → remainder_follower m (not bit) ≢ remainder_follower m bit
followers-apart m true e = omega arith
followers-apart m false e = omega arith

pub not-leader : (m p : ℕ) (bit : Bool) → p < m → (p == remainder_follower m bit) ≡ false
not-leader m p bit l = let a = follower-above m bit in ne_eqb p (remainder_follower m bit) (λ e. omega arith)

-- a silent move would have the same second state
loud-by : (p q r s : ℕ) → (q == s) ≡ false → (p == s) ≡ false → same_pair p q r s ≡ false
loud-by p q r s e f = let g = and-false (p == r) in rw (e, f, g) refl

pub pair-loud : (m rest p q : ℕ) → p < m → q < m → silent_move (leader_meeting m rest p q) ≡ false
pair-loud m rest p q l k =
    loud-by p q ((p + q) % m) (remainder_follower m (((p + q) % m) == rest)) (not-leader m q (((p + q) % m) == rest) k) (not-leader m p (((p + q) % m) == rest) l)

pub turn-loud : (m rest p : ℕ) → p < m → silent_move (follower_turn m rest p) ≡ false
turn-loud m rest p l =
    loud-by p (remainder_follower m (not (p == rest))) p (remainder_follower m (p == rest)) (ne_eqb _ _ (followers-apart m (p == rest))) (not-leader m p (p == rest) l)
