-- Synchronous: steps in which no leaf waits. Each leaf that has a non-silent move for the two makes one of these.
use Rattle.std.specs.Prelude.{◌≡◌, ◌⊎◌, ℕ, Some, slice_get}
use Rattle.pop_leaf.specs.LeafModel.{LeafModel}
use Rattle.pop_leaf.specs.NetModel.{NetModel, Tuple, IsTuple, state_of}
use Rattle.pop_leaf.specs.Step.{LeafMove, Meets}
use Rattle.theory_fair.specs.StablyComputes.{Relation}

-- a non-silent move changes both states, or they stay and there is no such move for them
abbrev pub LeafReacts : LeafModel → ℕ → ℕ → ℕ → ℕ → Type 0
LeafReacts leaf x y x' y' =
    LeafMove leaf x y x' y' ⊎ ((x' ≡ x) × (y' ≡ y) × ((u v : ℕ) → ¬ LeafMove leaf x y u v))

-- all leaves react at once to the meeting of the tuples x and y
pub record AllReact (net : NetModel) (x y x' y' : Tuple) : Type 0 where
  pub first : IsTuple net x'
  pub second : IsTuple net y'
  pub each : (i : ℕ) (leaf : LeafModel) → slice_get net.leaves i ≡ Some leaf
      → LeafReacts leaf (state_of x i) (state_of y i) (state_of x' i) (state_of y' i)

-- a step of the synchronous product of the leaves
abbrev pub SynchronousStep : NetModel → Relation
SynchronousStep net = Meets (AllReact net)
