-- LeafModel: one population protocol, with its states numbered from 0.
use Rattle.std.specs.Prelude.{◌≡◌, ℕ, ◌+◌, ◌<◌, ◌≤◌, Bool, ◌&&◌, ◌||◌, ◌==◌, if◌then◌else◌, List, length, All}
use Rattle.pop_io.specs.Names.{AreNames, state_name}
use Rattle.pop_leaf.specs.declared.leaf.Move.{Move}
use Rattle.pop_io.specs.declared.names.TheConstants.{VARIABLE_LIMIT}
use Rattle.pop_leaf.specs.declared.limits.TheConstants.{STATE_LIMIT, MOVE_LIMIT, HELPER_LIMIT}

pub record LeafModel : Type 0 where
  -- the states' names
  pub states : List (List ℕ)
  -- p,q -> r,s
  pub moves : List Move
  -- the start state of each variable
  pub inputs : List ℕ
  -- the output of each state
  pub outputs : List Bool
  -- the state of each helper, an agent that is in every input
  pub helpers : List ℕ

-- 1 when the states are the same, and 0 otherwise
abbrev pub one_at : ℕ → ℕ → ℕ
one_at x z = if x == z then 1 else 0

-- how often state z occurs in the pair x, y
abbrev pub times_in_pair : ℕ → ℕ → ℕ → ℕ
times_in_pair x y z = one_at x z + one_at y z

-- the multisets of a move's states before and after it
abbrev pub pre : Move → ℕ → ℕ
pre t z = times_in_pair t.p t.q z

abbrev pub post : Move → ℕ → ℕ
post t z = times_in_pair t.r t.s z

-- whether x, y and u, v are the same pair, in one order or the other
abbrev pub same_pair : ℕ → ℕ → ℕ → ℕ → Bool
same_pair x y u v = (x == u) && (y == v) || (x == v) && (y == u)

-- whether a move leaves the multiset of its states unchanged
abbrev pub silent_move : Move → Bool
silent_move t = same_pair t.p t.q t.r t.s

-- each state of a move is below n
abbrev pub IsMoveBelow : ℕ → Move → Type 0
IsMoveBelow n t = (t.p < n) × (t.q < n) × (t.r < n) × (t.s < n)

-- the names of a leaf are well-formed, and its numbers in range
pub record IsLeaf (leaf : LeafModel) : Type 0 where
  pub names : AreNames state_name leaf.states
  pub some_state : 1 ≤ length leaf.states
  pub states : length leaf.states ≤ STATE_LIMIT
  pub move_count : length leaf.moves ≤ MOVE_LIMIT
  pub moves : All (IsMoveBelow (length leaf.states)) leaf.moves
  pub some_input : 1 ≤ length leaf.inputs
  pub input_count : length leaf.inputs ≤ VARIABLE_LIMIT
  pub inputs : All (λ q. q < length leaf.states) leaf.inputs
  pub outputs : length leaf.outputs ≡ length leaf.states
  pub helper_count : length leaf.helpers ≤ HELPER_LIMIT
  pub helpers : All (λ q. q < length leaf.states) leaf.helpers
