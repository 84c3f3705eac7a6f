-- InputCrowd: the crowd in which a net starts at a list of counts.
use Rattle.std.specs.Prelude.{◌≡◌, ℕ, ◌+◌, ◌≤◌, List, [], ◌∷◌, ◌++◌, length, map, replicate, sum, slice_index}
use Rattle.std.specs.List.{range_with_len}
use Rattle.pop_leaf.specs.LeafModel.{LeafModel}
use Rattle.pop_leaf.specs.NetModel.{NetModel, Tuple, CrowdModel, number_of_helpers}

-- as many starts of this variable as its count says, then those of the later variables
abbrev pub starts_from : {A : Type 0} → (ℕ → A) → ℕ → List ℕ → List A
starts_from start variable [] = []
starts_from start variable (n ∷ counts) = replicate n (start variable) ++ starts_from start (variable + 1) counts

-- the tuple in which an agent of a variable starts
abbrev pub start_of : NetModel → ℕ → Tuple
start_of net variable = map (λ leaf. slice_index leaf.inputs variable) net.leaves

-- the tuple of a helper
abbrev pub helper_of : NetModel → ℕ → Tuple
helper_of net helper = map (λ leaf. slice_index leaf.helpers helper) net.leaves

-- the agents of the variables in their order, then the helpers
abbrev pub input_crowd : NetModel → List ℕ → CrowdModel
input_crowd net counts =
    starts_from (start_of net) 0 counts ++ map (helper_of net) (range_with_len 0 (number_of_helpers net))

-- the same for one leaf, whose crowds are lists of states
abbrev pub leaf_input_crowd : LeafModel → List ℕ → List ℕ
leaf_input_crowd leaf counts = starts_from (λ variable. slice_index leaf.inputs variable) 0 counts ++ leaf.helpers

-- one count per variable, and at least two agents with the helpers
pub record IsInput (variables helpers : ℕ) (counts : List ℕ) : Type 0 where
  pub one_each : length counts ≡ variables
  pub two_agents : 2 ≤ sum counts + helpers
