-- CountLeaf: the built leaf of an atom that says that a sum is at least c, or denies it, where each coefficient is 0, a
-- power of two or at least c (Blondin, Esparza, Jaax 2018). Its agents reach a target t: c itself, or more with helpers
-- that are worth t - c.
use Rattle.std.specs.Prelude.{◌≡◌, ◌≤◌, ℕ, ◌+◌, ◌^◌, Bool, ◌&&◌, ◌==◌, nat_le, if◌then◌else◌, List, [], ◌∷◌, ◌++◌}
use Rattle.std.specs.Prelude.{length, map, flat_map, slice_index_or, ℤ, All}
use Rattle.std.specs.List.{range_with_len}
use Rattle.std.specs.Fmt.{decimal}
use Rattle.pop_leaf.specs.declared.leaf.Move.{Move}
use Rattle.pop_leaf.specs.LeafModel.{LeafModel}
use Rattle.comp_counting.specs.declared.limits.TheConstants.{POWER_LIMIT, PLACE_LIMIT}
use Rattle.comp_counting.specs.FullState.{conversion_move, flock_start, flock_state_count, flock_output}

-- ---- what the states are worth, from the least on: nothing, and at last t

abbrev pub worth_in : List ℕ → ℕ → ℕ
worth_in ws q = slice_index_or ws q 0

-- the worths of k + 2 states, none above the limit
pub record AreWorths (ws : List ℕ) (k : ℕ) : Type 0 where
  pub long : length ws ≡ k + 2
  pub few : k ≤ PLACE_LIMIT
  pub small : All (λ n. n ≤ 2 ^ POWER_LIMIT) ws

-- ---- moves: two agents that are worth t or more become full, state k + 1; two that are worth as much as the next
-- state join; and a full one turns all others

abbrev pub full_move : ℕ → ℕ → ℕ → Move
full_move k p q = record { p = p; q = q; r = k + 1; s = k + 1 }

abbrev pub join_move : ℕ → ℕ → Move
join_move p q = record { p = p; q = q; r = p + 1; s = 0 }

-- of two that are worth t or more; a leaf that keeps worths lets two that are worth just t join
abbrev pub filled_move : Bool → List ℕ → ℕ → ℕ → ℕ → Move
filled_move keeps ws k p q =
    if keeps && worth_in ws p + worth_in ws q == worth_in ws (p + 1) then join_move p q else full_move k p q

-- those of two states that are not full, q at most p
abbrev pub pair_moves : Bool → List ℕ → ℕ → ℕ → ℕ → ℕ → List Move
pair_moves keeps ws t k p q =
    if nat_le t (worth_in ws p + worth_in ws q) then (filled_move keeps ws k p q ∷ [])
    else (if worth_in ws p + worth_in ws q == worth_in ws (p + 1) then (join_move p q ∷ []) else [])

abbrev pub moves_from : Bool → List ℕ → ℕ → ℕ → ℕ → List Move
moves_from keeps ws t k p = flat_map (pair_moves keeps ws t k p) (range_with_len 0 (p + 1))

abbrev pub count_moves : Bool → List ℕ → ℕ → ℕ → List Move
count_moves keeps ws t k =
    flat_map (moves_from keeps ws t k) (range_with_len 0 (k + 1)) ++ map (conversion_move k) (range_with_len 0 (k + 1))

-- ---- the leaf

abbrev pub count_state_name : List ℕ → ℕ → List ℕ
count_state_name ws q = decimal (worth_in ws q)

-- with k + 2 states, which are worth this
abbrev pub count_leaf : List ℤ → Bool → ℕ → Bool → ℕ → List ℕ → ℕ → List ℕ → LeafModel
count_leaf coefs says c keeps t ws k helpers =
    record {
      states = map (count_state_name ws) (range_with_len 0 (flock_state_count k));
      moves = count_moves keeps ws t k;
      inputs = map (flock_start c k) coefs;
      outputs = map (flock_output says k) (range_with_len 0 (flock_state_count k));
      helpers = helpers;
    }
