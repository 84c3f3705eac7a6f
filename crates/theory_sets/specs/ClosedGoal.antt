-- ClosedGoal: crowds of a goal that no step leaves, and that are always reached.
use Rattle.std.specs.Prelude.{◌≡◌, ℕ, ◌*◌, Bool, false, List, length, All, slice_index_or}
use Rattle.std.specs.List.Sorted.{IsPermutation}
use Rattle.pop_leaf.specs.LeafModel.{LeafModel}
use Rattle.pop_leaf.specs.Step.{LeafStep}
use Rattle.pop_leaf.specs.Reachable.{Reachable, ReachedWithin}
use Rattle.theory_sets.specs.Reached.{IsAtGoal}

-- what holds of the crowds of a goal from a start
pub record IsClosedGoal (leaf : LeafModel) (moves : List ℕ) (value : Bool) (sets : List (List ℕ)) (start : List ℕ)
    : Type 0 where
  -- no step leaves them
  pub closed : (before after : List ℕ) → IsAtGoal leaf moves sets start before → LeafStep leaf before after
      → IsAtGoal leaf moves sets start after
  -- the value is every agent's output
  pub right : (crowd : List ℕ) → IsAtGoal leaf moves sets start crowd
      → All (λ q. slice_index_or leaf.outputs q false ≡ value) crowd
  -- the order of the agents doesn't matter
  pub unordered : (crowd other : List ℕ) → IsAtGoal leaf moves sets start crowd → IsPermutation crowd other
      → IsAtGoal leaf moves sets start other

-- from every crowd reached from the start, steps lead to a crowd of the goal, within this many for each agent
abbrev pub ComesToGoal : LeafModel → List ℕ → List (List ℕ) → List ℕ → ℕ → Type 0
ComesToGoal leaf moves sets start k =
    (crowd : List ℕ) → Reachable (LeafStep leaf) start crowd
    → (end : List ℕ) × IsAtGoal leaf moves sets start end × ReachedWithin (LeafStep leaf) (k * length crowd) crowd end
