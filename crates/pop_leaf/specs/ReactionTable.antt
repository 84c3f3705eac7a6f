-- ReactionTable: the reactions of a leaf, one for each ordered pair of its states, row by row.
use Rattle.std.specs.Prelude.{◌≡◌, ℕ, ◌+◌, ◌*◌, ◌<◌, if◌then◌else◌, List, length, Some, find, slice_get, slice_set}
use Rattle.pop_leaf.specs.declared.leaf.Move.{Move}
use Rattle.pop_leaf.specs.LeafModel.{silent_move}
use Rattle.pop_leaf.specs.Reaction.{takes_states, by_move}

-- the entry for x and y is what the first move that takes them makes of them
pub record IsTable (states : ℕ) (moves : List Move) (table : List (ℕ × ℕ)) : Type 0 where
  pub size : length table ≡ states * states
  pub entry : (x y : ℕ) → x < states → y < states
      → slice_get table (x * states + y) ≡ Some (by_move x y (find (takes_states x y) moves))

-- the table with a move entered for its two pairs, replacing what was there
abbrev pub with_reaction : ℕ → Move → List (ℕ × ℕ) → List (ℕ × ℕ)
with_reaction states t table =
    if silent_move t
    then table
    else slice_set (slice_set table (t.q * states + t.p) (t.s, t.r)) (t.p * states + t.q) (t.r, t.s)
