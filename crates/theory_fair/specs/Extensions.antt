-- Extensions: each finite execution from an input is the beginning of a fair one: fairness excludes none of them.
use Rattle.std.specs.Prelude.{◌≡◌, ℕ, List, ◌∷◌, length, Some, slice_get}
use Rattle.pop_leaf.specs.NetModel.{NetModel, CrowdModel, number_of_helpers}
use Rattle.pop_leaf.specs.InputCrowd.{IsInput, input_crowd}
use Rattle.pop_leaf.specs.Reachable.{Leads}
use Rattle.theory_fair.specs.Executions.{IsFair}
use Rattle.theory_fair.specs.StablyComputes.{Relation, IsExecutionFrom, IsSameMap, IsSameMultiset, MultisetStep}

-- a fair execution by the steps S from the input with these counts, and these are its first crowds
pub record FairExtension (Same S : Relation) (net : NetModel) (counts : List ℕ) (firsts : List CrowdModel)
    : Type 0 where
  pub crowds : ℕ → CrowdModel
  pub runs : IsExecutionFrom Same S net counts crowds
  pub fair : IsFair Same S crowds
  pub begins : (i : ℕ) (c : CrowdModel) → slice_get firsts i ≡ Some c → crowds i ≡ c

abbrev pub ExtendFairlyBy : (Same S : Relation) → NetModel → Type 0
ExtendFairlyBy Same S net =
    (counts : List ℕ) (first : CrowdModel) (path : List CrowdModel) (last : CrowdModel)
    → IsInput (length net.variables) (number_of_helpers net) counts → Same (input_crowd net counts) first
    → Leads S first path last → FairExtension Same S net counts (first ∷ path)

-- with configurations as maps and as multisets
pub record ExtendFairly (S : Relation) (net : NetModel) : Type 0 where
  pub of_maps : ExtendFairlyBy IsSameMap S net
  pub of_multisets : ExtendFairlyBy IsSameMultiset (MultisetStep S) net
