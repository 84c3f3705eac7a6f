-- Laws: which crowds of a goal no step leaves.
use Rattle.std.specs.Prelude.{ℕ, List, Contains}
use Rattle.std.specs.List.Sorted.{IsPermutation}
use Rattle.pop_leaf.specs.LeafModel.{LeafModel}
use Rattle.pop_leaf.specs.Step.{LeafStep}
use Rattle.cert_base.specs.GoalEnds.{IsWithin}
use Rattle.theory_sets.specs.Stays.{SleepIn, IsGuarded}
use Rattle.theory_sets.specs.Reached.{IsDeadFor, IsGoalEnd, IsHeld, IsAtGoal}

-- the crowds of a guarded set, and the ends in a settled one
pub record GoalCrowdsStay : Type 0 where
  -- a crowd with all agents in a guarded set is held if none of the moves is possible
  pub guarded : (leaf : LeafModel) (moves : List ℕ) (sets : List (List ℕ)) (set crowd : List ℕ) → Contains sets set
      → IsGuarded leaf moves set → IsWithin set crowd → IsDeadFor leaf moves crowd → IsHeld leaf moves sets crowd
  -- no step leaves the held crowds
  pub held : (leaf : LeafModel) (moves : List ℕ) (sets : List (List ℕ)) (before after : List ℕ)
      → IsHeld leaf moves sets before → LeafStep leaf before after → IsHeld leaf moves sets after
  -- nor the ends with all agents in a settled set
  pub settled : (leaf : LeafModel) (moves start set before after : List ℕ) → IsWithin set before
      → SleepIn leaf set moves → IsGoalEnd leaf moves start before → LeafStep leaf before after
      → IsGoalEnd leaf moves start after
  -- the order of the agents doesn't matter
  pub unordered : (leaf : LeafModel) (moves : List ℕ) (sets : List (List ℕ)) (start crowd other : List ℕ)
      → IsAtGoal leaf moves sets start crowd → IsPermutation crowd other → IsAtGoal leaf moves sets start other
