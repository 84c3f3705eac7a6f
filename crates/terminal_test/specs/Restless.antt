-- Restless: the states in which an agent may change, given the crowd's states.
use Rattle.std.specs.Prelude.{◌≡◌, ◌≢◌, ℕ, ◌<◌, ◌≤◌, Bool, true, false, ◌&&◌, ◌==◌, nat_le, if◌then◌else◌, List, length}
use Rattle.std.specs.Prelude.{Some, slice_get, slice_index_or}
use Rattle.pop_leaf.specs.LeafModel.{LeafModel}
use Rattle.pop_leaf.specs.NetModel.{NetModel, Tuple, CrowdModel, state_of}
use Rattle.pop_net.proofs.Projection.{component}
use Rattle.pop_leaf.proofs.Quiet.{leaf_quiet}

-- the entry of a state is at least how many of the first n agents are in it, counted up to two
pub record CountsTo (states seen : List ℕ) (n : ℕ) : Type 0 where
  pub once : (a x : ℕ) → a < n → slice_get states a ≡ Some x → 1 ≤ slice_index_or seen x 0
  pub twice : (a b x : ℕ) → a < b → b < n → slice_get states a ≡ Some x → slice_get states b ≡ Some x
      → 2 ≤ slice_index_or seen x 0

-- one entry for each state of leaf i, which counts the first n agents
pub record AreSeenTo (net : NetModel) (i : ℕ) (crowd : CrowdModel) (seen : List ℕ) (n : ℕ) : Type 0 where
  pub size : (leaf : LeafModel) → slice_get net.leaves i ≡ Some leaf → length seen ≡ length leaf.states
  pub counted : CountsTo (component i crowd) seen n

abbrev pub AreSeen : NetModel → ℕ → CrowdModel → List ℕ → Type 0
AreSeen net i crowd seen = AreSeenTo net i crowd seen (length crowd)

-- whether two different agents are in these states
abbrev pub are_held_by : List ℕ → ℕ → ℕ → Bool
are_held_by seen p q =
    if p == q
    then nat_le 2 (slice_index_or seen p 0)
    else (nat_le 1 (slice_index_or seen p 0) && nat_le 1 (slice_index_or seen q 0))

-- the states of the first k pairs are marked if they can meet
pub record AreMarkedTo (pairs : List (ℕ × ℕ)) (seen : List ℕ) (marks : List Bool) (k : ℕ) : Type 0 where
  pub size : length marks ≡ length seen
  pub first : (j p q : ℕ) → j < k → slice_get pairs j ≡ Some (p, q) → are_held_by seen p q ≡ true
      → slice_get marks p ≡ Some true
  pub second : (j p q : ℕ) → j < k → slice_get pairs j ≡ Some (p, q) → are_held_by seen p q ≡ true
      → slice_get marks q ≡ Some true

abbrev pub AreMarkedByAll : List (ℕ × ℕ) → List ℕ → List Bool → Type 0
AreMarkedByAll pairs seen marks = AreMarkedTo pairs seen marks (length pairs)

-- a state in which some agent reacts with another one is marked
pub record IsMarked (leaf : LeafModel) (states : List ℕ) (marks : List Bool) : Type 0 where
  pub size : length marks ≡ length leaf.states
  pub marked : (a b x y : ℕ) → a ≢ b → slice_get states a ≡ Some x → slice_get states b ≡ Some y
      → leaf_quiet leaf x y ≡ false → slice_get marks x ≡ Some true

-- what holds for the leaf with this number
abbrev pub IsLeafOf : NetModel → ℕ → (LeafModel → Type 0) → Type 0
IsLeafOf net i P = (leaf : LeafModel) → slice_get net.leaves i ≡ Some leaf → P leaf

-- such marks for each of the first n leaves
pub record AreRestlessTo (net : NetModel) (crowd : CrowdModel) (marks : List (List Bool)) (n : ℕ) : Type 0 where
  pub one_each : length marks ≡ n
  pub each : (i : ℕ) (leaf : LeafModel) (here : List Bool) → slice_get net.leaves i ≡ Some leaf
      → slice_get marks i ≡ Some here
      → IsMarked leaf (component i crowd) here

abbrev pub AreRestless : NetModel → CrowdModel → List (List Bool) → Type 0
AreRestless net crowd marks = AreRestlessTo net crowd marks (length net.leaves)

-- no state of a tuple is marked in the first n leaves
abbrev pub IsCalmTo : List (List Bool) → Tuple → ℕ → Type 0
IsCalmTo marks tuple n = (i : ℕ) (here : List Bool) → i < n → slice_get marks i ≡ Some here
    → slice_get here (state_of tuple i) ≡ Some false

abbrev pub IsCalm : List (List Bool) → Tuple → Type 0
IsCalm marks tuple = IsCalmTo marks tuple (length marks)

-- one mark for each state of each leaf
abbrev pub AreSizes : NetModel → List (List Bool) → Type 0
AreSizes net marks =
    (i : ℕ) (leaf : LeafModel) (here : List Bool) → slice_get net.leaves i ≡ Some leaf → slice_get marks i ≡ Some here
    → length here ≡ length leaf.states
