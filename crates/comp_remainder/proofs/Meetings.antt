-- Which states of a built leaf of `Rest` can meet: two leaders, and a leader and a follower that answers otherwise.
use Rattle.std.proofs.Common.{◌≡◌, ◌⊎◌, inl, inr, ℕ, ◌<◌, ◌≤◌, true, false, List, refl, arith}
use Rattle.std.specs.Prelude.{ℤ, not, ◌==◌}
use Rattle.std.proofs.lemmas.Bool.{cases_lt}
use Rattle.pop_leaf.specs.declared.leaf.Move.{Move}
use Rattle.pop_leaf.specs.LeafModel.{silent_move, same_pair}
use Rattle.pop_leaf.specs.Reaction.{takes_states}
use Rattle.cert_base.specs.FactsAndCases.{can_meet_in}
use Rattle.cert_base.proofs.WeightedSums.{list_any-from}
use Rattle.comp_remainder.specs.RemainderLeaf.{remainder_follower, leader_meeting, follower_turn, remainder_moves, remainder_leaf_of}
use Rattle.comp_remainder.proofs.MoveLists.{has_pair, has_turn, pair-loud, turn-loud}
use Rattle.pop_leaf.proofs.Silent.{same-self, same-other}

-- a loud move takes its states
takes-by : (p q : ℕ) (t : Move) → silent_move t ≡ false → same_pair p q t.p t.q ≡ true → takes_states p q t ≡ true
takes-by p q t e f = rw (e, f) refl

pub leaders-meet : (coefs : List ℤ) (m rest spare p q : ℕ) → p < m → q < m → can_meet_in (remainder_leaf_of coefs m rest spare) p q ≡ true
leaders-meet coefs m rest spare p q l k = go (cases_lt q p)
  where
    go : (q < p) ⊎ (p ≤ q) → can_meet_in (remainder_leaf_of coefs m rest spare) p q ≡ true
    go (inl h) = list_any-from (takes_states p q) (remainder_moves m rest) (leader_meeting m rest q p) (has_pair m rest q p (omega arith) l) (takes-by p q (leader_meeting m rest q p) (pair-loud m rest q p k l) (same-other p q))
    go (inr h) = list_any-from (takes_states p q) (remainder_moves m rest) (leader_meeting m rest p q) (has_pair m rest p q h k) (takes-by p q (leader_meeting m rest p q) (pair-loud m rest p q l k) (same-self p q))

pub turned-meet : (coefs : List ℤ) (m rest spare p : ℕ) → p < m → can_meet_in (remainder_leaf_of coefs m rest spare) p (remainder_follower m (not (p == rest))) ≡ true
turned-meet coefs m rest spare p l =
    list_any-from (takes_states p (remainder_follower m (not (p == rest)))) (remainder_moves m rest) (follower_turn m rest p) (has_turn m rest p l) (takes-by p (remainder_follower m (not (p == rest))) (follower_turn m rest p) (turn-loud m rest p l) (same-self p (remainder_follower m (not (p == rest)))))
