-- ThresholdLeaf: the built leaf of `Less`. With s as its width, a leader `L(u)` or a follower `F(bit,v)` has a value
-- from -s to s; the value u stands at place u + s. The leaders come first, then the followers with the bit false, then
-- those with the bit true (Angluin, Aspnes, Diamadi, Fischer, Peralta 2006).
use Rattle.std.specs.Prelude.{ℕ, ◌+◌, ◌-◌, Bool, not, ◌&&◌, ◌==◌, nat_lt, if◌then◌else◌, List, []}
use Rattle.std.specs.Prelude.{◌∷◌, ◌++◌, map, filter, flat_map, fold, ℤ, pos, ◌+ℤ◌, ◌-ℤ◌, nat_abs}
use Rattle.std.specs.List.{range_with_len}
use Rattle.std.specs.Fmt.{signed_decimal}
use Rattle.pop_leaf.specs.declared.leaf.Move.{Move}
use Rattle.pop_leaf.specs.LeafModel.{LeafModel}

-- the greater one, and the smaller one
abbrev pub greater : ℕ → ℕ → ℕ
greater a b = if nat_lt a b then b else a

abbrev pub smaller : ℕ → ℕ → ℕ
smaller a b = if nat_lt a b then a else b

-- the greatest size of a coefficient, or the bound's plus 1 if that is greater
abbrev pub threshold_width : List ℤ → ℤ → ℕ
threshold_width coefs bound = fold (λ s a. greater s (nat_abs a)) (nat_abs bound + 1) coefs

-- the number of values from -s to s
abbrev pub span_of : ℕ → ℕ
span_of s = s + s + 1

abbrev pub place_of_value : ℕ → ℤ → ℕ
place_of_value s u = nat_abs (u +ℤ pos s)

-- the place of a state's value
abbrev pub threshold_place : ℕ → ℕ → ℕ
threshold_place s q =
    if nat_lt q (span_of s) then q
    else (if nat_lt q (span_of s + span_of s) then q - span_of s else q - (span_of s + span_of s))

-- the value of a state
abbrev pub threshold_value : ℕ → ℕ → ℤ
threshold_value s q = pos (threshold_place s q) -ℤ pos s

-- the state F(bit,v), for the place of v
abbrev pub threshold_follower : ℕ → Bool → ℕ → ℕ
threshold_follower s bit v = if bit then span_of s + span_of s + v else span_of s + v

-- the sum of two values, cut to the range, and what is left of it, as places
abbrev pub joined_value : ℕ → ℕ → ℕ → ℕ
joined_value s u v = smaller (s + s) (u + v - s)

abbrev pub leftover : ℕ → ℕ → ℕ → ℕ
leftover s u v = u + v - joined_value s u v

-- what a leader and a state become when they meet; the bound is at place t
abbrev pub threshold_leader_move : (s t p q : ℕ) → Move
threshold_leader_move s t p q =
    record {
      p = p;
      q = q;
      r = joined_value s p (threshold_place s q);
      s = threshold_follower s (nat_lt (joined_value s p (threshold_place s q)) t) (leftover s p (threshold_place s q));
    }

-- whether a state changes
abbrev pub alters_states : Move → Bool
alters_states m = not ((m.r == m.p) && (m.s == m.q))

abbrev pub threshold_pairs : (s t p : ℕ) → List Move
threshold_pairs s t p = map (threshold_leader_move s t p) (range_with_len p (span_of s - p))

abbrev pub threshold_turns : (s t p : ℕ) → List Move
threshold_turns s t p =
    filter alters_states (map (threshold_leader_move s t p) (range_with_len (span_of s) (span_of s + span_of s)))

abbrev pub threshold_moves : (s t : ℕ) → List Move
threshold_moves s t =
    flat_map (threshold_pairs s t) (range_with_len 0 (span_of s))
    ++ flat_map (threshold_turns s t) (range_with_len 0 (span_of s))

abbrev pub threshold_state_count : ℕ → ℕ
threshold_state_count s = span_of s + span_of s + span_of s

-- `L`, `f` or `t`, and the value
abbrev pub letter : ℕ → ℕ → ℕ
letter s q = if nat_lt q (span_of s) then 76 else (if nat_lt q (span_of s + span_of s) then 102 else 116)

abbrev pub threshold_state_name : ℕ → ℕ → List ℕ
threshold_state_name s q = letter s q ∷ signed_decimal (threshold_value s q)

abbrev pub threshold_output : (s t q : ℕ) → Bool
threshold_output s t q = if nat_lt q (span_of s) then nat_lt q t else not (nat_lt q (span_of s + span_of s))

abbrev pub built : (s t : ℕ) → List ℕ → LeafModel
built s t inputs =
    record {
      states = map (threshold_state_name s) (range_with_len 0 (threshold_state_count s));
      moves = threshold_moves s t;
      inputs = inputs;
      outputs = map (threshold_output s t) (range_with_len 0 (threshold_state_count s));
      helpers = [];
    }

abbrev pub threshold_leaf_of : List ℤ → ℤ → LeafModel
threshold_leaf_of coefs bound =
    built (threshold_width coefs bound) (place_of_value (threshold_width coefs bound) bound)
    (map (place_of_value (threshold_width coefs bound)) coefs)
