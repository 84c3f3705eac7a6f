-- Reached: the crowds in which a goal is reached.
use Rattle.std.specs.Prelude.{ℕ, Bool, ◌⊎◌, List, Contains}
use Rattle.std.specs.List.Sorted.{IsPermutation}
use Rattle.pres_ast.specs.PredTree.{PredTree}
use Rattle.pop_leaf.specs.LeafModel.{LeafModel}
use Rattle.pop_leaf.specs.Step.{LeafStep}
use Rattle.pop_leaf.specs.Reachable.{Reachable}
use Rattle.pop_leaf.specs.Terminal.{IsTerminal}
use Rattle.pop_leaf.specs.Hushed.{hushed}
use Rattle.cert_base.specs.GoalEnds.{IsWithin, EndsInside}
use Rattle.theory_sets.specs.Stays.{escapes, IsGuarded}

-- none of these moves is possible
abbrev pub IsDeadFor : LeafModel → List ℕ → List ℕ → Type 0
IsDeadFor leaf moves crowd = IsTerminal (LeafStep (hushed leaf moves)) crowd

-- what a tree shows: from each input at which the predicate has this value, each reachable crowd in which none of
-- these moves is possible has all agents in one of the sets
abbrev pub EndsWithinOne : LeafModel → List ℕ → PredTree → Bool → List (List ℕ) → Type 0
EndsWithinOne leaf moves = EndsInside leaf (hushed leaf moves)

-- a crowd reached from the start, in some order of its agents, in which none of these moves is possible
pub record IsGoalEnd (leaf : LeafModel) (moves start crowd : List ℕ) : Type 0 where
  pub other : List ℕ
  pub reached : Reachable (LeafStep leaf) start other
  pub order : IsPermutation other crowd
  pub dead : IsDeadFor leaf moves crowd

-- a crowd with all agents in a guarded set, in which no move that leads out is possible
pub record IsHeld (leaf : LeafModel) (moves : List ℕ) (sets : List (List ℕ)) (crowd : List ℕ) : Type 0 where
  pub set : List ℕ
  pub listed : Contains sets set
  pub guarded : IsGuarded leaf moves set
  pub within : IsWithin set crowd
  pub dead : IsDeadFor leaf (escapes leaf set) crowd

-- the crowds of a goal
abbrev pub IsAtGoal : LeafModel → List ℕ → List (List ℕ) → List ℕ → List ℕ → Type 0
IsAtGoal leaf moves sets start crowd = IsGoalEnd leaf moves start crowd ⊎ IsHeld leaf moves sets crowd
