-- LeafGoals: sets of crowds of a leaf in which its outputs have come to rest.
use Rattle.std.specs.Prelude.{◌≡◌, ℕ, ◌*◌, Bool, false, List, length, map, sum_by, All, Some, slice_get}
use Rattle.std.specs.Prelude.{slice_index_or}
use Rattle.std.specs.List.Sorted.{IsPermutation}
use Rattle.pres_ast.specs.PredTree.{PredTree}
use Rattle.pres_ast.specs.PredicateValue.{predicate_value}
use Rattle.pop_leaf.specs.LeafModel.{LeafModel}
use Rattle.pop_leaf.specs.NetModel.{NetModel, combined}
use Rattle.pop_leaf.specs.InputCrowd.{leaf_input_crowd, IsInput}
use Rattle.pop_leaf.specs.Step.{LeafStep}
use Rattle.pop_leaf.specs.Reachable.{Reachable, ReachedWithin}
use Rattle.cert_base.specs.ValidProof.{trees}

-- a set of a leaf's crowds, in which its outputs have come to rest at the value
pub record IsLeafGoalFrom (leaf : LeafModel) (value : Bool) (k : ℕ) (start : List ℕ) (Goal : List ℕ → Type 0)
    : Type 0 where
  -- from every crowd reached from the start, at most k steps for each agent lead to one of the set
  pub reached : (crowd : List ℕ) → Reachable (LeafStep leaf) start crowd
      → (end : List ℕ) × Goal end × ReachedWithin (LeafStep leaf) (k * length crowd) crowd end
  -- no step leaves it
  pub closed : (before after : List ℕ) → Goal before → LeafStep leaf before after → Goal after
  -- in it the value is every agent's output
  pub right : (crowd : List ℕ) → Goal crowd → All (λ q. slice_index_or leaf.outputs q false ≡ value) crowd
  -- the order of the agents doesn't matter
  pub unordered : (crowd other : List ℕ) → Goal crowd → IsPermutation crowd other → Goal other

-- for each input of the leaf, such a set for the predicate's value there
abbrev pub IsLeafGoal : LeafModel → PredTree → ℕ → (List ℕ → List ℕ → Type 0) → Type 0
IsLeafGoal leaf tree k Goal =
    (counts : List ℕ) → IsInput (length leaf.inputs) (length leaf.helpers) counts
    → IsLeafGoalFrom leaf (predicate_value tree counts) k (leaf_input_crowd leaf counts) (Goal counts)

-- what a leaf computes, and how many steps it needs for each agent
pub record LeafPart : Type 0 where
  pub tree : PredTree
  pub bound : ℕ

-- the bound for all leaves
abbrev pub parts_bound : List LeafPart → ℕ
parts_bound parts = sum_by (λ part. part.bound) parts

-- the net's combination, with each leaf's predicate in place of its number, is this tree
abbrev pub PartsCombineTo : NetModel → List LeafPart → PredTree → Type 0
PartsCombineTo net parts tree = combined (trees (map (λ part. part.tree) parts)) net.combine ≡ Some tree

-- each leaf has goals for its part, and the net combines the parts' predicates into this one
pub record HasLeafGoals (net : NetModel) (tree : PredTree) (parts : List LeafPart)
    (Goals : ℕ → List ℕ → List ℕ → Type 0) : Type 0 where
  pub one_each : length parts ≡ length net.leaves
  pub leaves : (i : ℕ) (leaf : LeafModel) (part : LeafPart) → slice_get net.leaves i ≡ Some leaf
      → slice_get parts i ≡ Some part → IsLeafGoal leaf part.tree part.bound (Goals i)
  pub combination : PartsCombineTo net parts tree
