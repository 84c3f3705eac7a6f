-- RemainderLeaf: the built leaf of `Rest`. A leader `N(n)` has a remainder n; the followers `F(false)` and `F(true)`
-- come after the leaders (Angluin, Aspnes, Diamadi, Fischer, Peralta 2006).
use Rattle.std.specs.Prelude.{ℕ, ◌+◌, ◌-◌, ◌%◌, Bool, not, ◌==◌, nat_lt, if◌then◌else◌, List, [], ◌∷◌, ◌++◌, map}
use Rattle.std.specs.Prelude.{flat_map, replicate, ℤ, pos, nat_abs}
use Rattle.std.specs.List.{range_with_len}
use Rattle.std.specs.Int.{int_rem_euclid}
use Rattle.std.specs.Fmt.{decimal}
use Rattle.pop_leaf.specs.declared.leaf.Move.{Move}
use Rattle.pop_leaf.specs.LeafModel.{LeafModel}

-- the remainder, from 0 to m - 1
abbrev pub residue_of : ℕ → ℤ → ℕ
residue_of m a = nat_abs (int_rem_euclid a (pos m))

abbrev pub remainder_follower : ℕ → Bool → ℕ
remainder_follower m bit = if bit then m + 1 else m

-- two leaders meet: the first keeps the sum, and the second becomes a follower that answers for it
abbrev pub leader_meeting : (m rest p q : ℕ) → Move
leader_meeting m rest p q = record { p = p; q = q; r = (p + q) % m; s = remainder_follower m (((p + q) % m) == rest) }

-- a leader turns a follower
abbrev pub follower_turn : (m rest p : ℕ) → Move
follower_turn m rest p =
    record { p = p; q = remainder_follower m (not (p == rest)); r = p; s = remainder_follower m (p == rest) }

-- each leader meets each leader from itself on; then each leader turns the followers that answer otherwise
abbrev pub remainder_pairs : (m rest p : ℕ) → List Move
remainder_pairs m rest p = map (leader_meeting m rest p) (range_with_len p (m - p))

abbrev pub remainder_moves : (m rest : ℕ) → List Move
remainder_moves m rest =
    flat_map (remainder_pairs m rest) (range_with_len 0 m) ++ map (follower_turn m rest) (range_with_len 0 m)

abbrev pub remainder_state_count : ℕ → ℕ
remainder_state_count m = m + 2

-- `N` and the number, `f`, `t`
abbrev pub remainder_state_name : ℕ → ℕ → List ℕ
remainder_state_name m q = if nat_lt q m then (78 ∷ decimal q) else (if q == m then (102 ∷ []) else (116 ∷ []))

abbrev pub remainder_output : (m rest q : ℕ) → Bool
remainder_output m rest q = if nat_lt q m then q == rest else q == m + 1

-- with spare helpers, which start as leaders of the remainder 0
abbrev pub remainder_leaf_of : List ℤ → (m rest spare : ℕ) → LeafModel
remainder_leaf_of coefs m rest spare =
    record {
      states = map (remainder_state_name m) (range_with_len 0 (remainder_state_count m));
      moves = remainder_moves m rest;
      inputs = map (residue_of m) coefs;
      outputs = map (remainder_output m rest) (range_with_len 0 (remainder_state_count m));
      helpers = replicate spare 0;
    }
