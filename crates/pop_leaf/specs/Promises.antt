-- Promises: what the calls of leaves promise, each in one record.
use Rattle.std.specs.Prelude.{◌≡◌, ℕ, ◌<◌, length, Result, IfOk}
use Rattle.pop_io.specs.declared.failure.Failure.{Failure}
use Rattle.pop_io.specs.Failures.{IfFault, OnlyMemory}
use Rattle.pop_leaf.specs.declared.fault.LeafFault.{LeafFault}
use Rattle.pop_leaf.specs.LeafModel.{LeafModel, IsLeaf}
use Rattle.pop_leaf.specs.LeafFaults.{RefusesLeaf}
use Rattle.pop_leaf.specs.Reaction.{leaf_reaction}
use Rattle.pop_leaf.specs.Step.{LeafChange}

-- a leaf of these parts, or the first rule that they break
pub record MakesLeaf (leaf : LeafModel) (result : Result LeafModel (Failure LeafFault)) : Type 0 where
  pub kept : IfOk result (λ made. made ≡ leaf)
  pub refused : IfFault result (RefusesLeaf leaf)
  pub accepts : IsLeaf leaf → OnlyMemory result

-- what the states x and y become
pub record LeafReacts (leaf : LeafModel) (x y : ℕ) (result : ℕ × ℕ) : Type 0 where
  pub reaction : result ≡ leaf_reaction leaf x y
  pub first_in : result.0 < length leaf.states
  pub second_in : result.1 < length leaf.states
  -- it is a change that a step allows
  pub change : LeafChange leaf x y result.0 result.1
