-- Kinds: two ways in which a leaf comes to rest. It falls silent, or it comes to sets of states that agents don't
-- leave.
use Rattle.std.specs.Prelude.{◌≡◌, ℕ, ◌*◌, max, Bool, true, false, if◌then◌else◌, List, length, map, Some}
use Rattle.std.specs.Prelude.{slice_get}
use Rattle.std.specs.List.Sorted.{IsPermutation}
use Rattle.pres_ast.specs.PredTree.{PredTree}
use Rattle.pres_ast.specs.PredicateValue.{predicate_value}
use Rattle.pop_leaf.specs.LeafModel.{LeafModel}
use Rattle.pop_leaf.specs.NetModel.{NetModel}
use Rattle.pop_leaf.specs.InputCrowd.{leaf_input_crowd, IsInput}
use Rattle.pop_leaf.specs.Step.{LeafStep}
use Rattle.pop_leaf.specs.Reachable.{Reachable, ReachedWithin}
use Rattle.pop_leaf.specs.Terminal.{IsTerminal}
use Rattle.cert_base.specs.Ends.{EndsRight}
use Rattle.theory_sets.specs.Reached.{IsAtGoal}
use Rattle.theory_sets.specs.ClosedGoal.{IsClosedGoal, ComesToGoal}
use Rattle.theory_goals.specs.LeafGoals.{LeafPart, PartsCombineTo}

-- moves that lead to sets of states, and how many of them that takes for each agent
pub record ValueGoal : Type 0 where
  pub moves : List ℕ
  pub sets : List (List ℕ)
  pub bound : ℕ

pub data LeafKind : Type 0 where
  -- within this many steps for each agent
  Silent : (bound : ℕ) → LeafKind
  -- a goal for each value of the predicate
  Stable : (on_true on_false : ValueGoal) → LeafKind

abbrev pub kind_bound : LeafKind → ℕ
kind_bound (Silent bound) = bound
kind_bound (Stable on_true on_false) = max on_true.bound on_false.bound

-- a terminal crowd that is reached from the start, in some order of its agents
pub record IsSilentEnd (leaf : LeafModel) (start crowd : List ℕ) : Type 0 where
  pub other : List ℕ
  pub reached : Reachable (LeafStep leaf) start other
  pub order : IsPermutation other crowd
  pub terminal : IsTerminal (LeafStep leaf) crowd

abbrev pub for_value : ValueGoal → ValueGoal → Bool → ValueGoal
for_value on_true on_false value = if value then on_true else on_false

-- the crowds in which the leaf has come to rest, from an input with these counts
abbrev pub IsAtRest : LeafModel → PredTree → LeafKind → List ℕ → List ℕ → Type 0
IsAtRest leaf tree (Silent bound) counts crowd = IsSilentEnd leaf (leaf_input_crowd leaf counts) crowd
IsAtRest leaf tree (Stable on_true on_false) counts crowd =
    let goal = for_value on_true on_false (predicate_value tree counts) in
    IsAtGoal leaf goal.moves goal.sets (leaf_input_crowd leaf counts) crowd

-- from every crowd on the way at most k steps for each agent lead to a terminal one, and each terminal one is right
pub record EndsRightWithin (leaf : LeafModel) (tree : PredTree) (k : ℕ) : Type 0 where
  pub ends : (counts crowd : List ℕ) → IsInput (length leaf.inputs) (length leaf.helpers) counts
      → Reachable (LeafStep leaf) (leaf_input_crowd leaf counts) crowd
      → (end : List ℕ) × IsTerminal (LeafStep leaf) end × ReachedWithin (LeafStep leaf) (k * length crowd) crowd end
  pub right : (value : Bool) → EndsRight leaf tree value

-- the crowds of the goal are closed under steps, right for the value, and always reached
pub record HoldsFrom (leaf : LeafModel) (value : Bool) (goal : ValueGoal) (start : List ℕ) : Type 0 where
  pub stay : IsClosedGoal leaf goal.moves value goal.sets start
  pub come : ComesToGoal leaf goal.moves goal.sets start goal.bound

-- from each input at which the predicate has this value
abbrev pub HoldsAt : LeafModel → PredTree → Bool → ValueGoal → Type 0
HoldsAt leaf tree value goal =
    (counts : List ℕ) → IsInput (length leaf.inputs) (length leaf.helpers) counts → predicate_value tree counts ≡ value
    → HoldsFrom leaf value goal (leaf_input_crowd leaf counts)

-- the leaf comes to rest in this way, with the predicate's value
abbrev pub ComesToRest : LeafModel → PredTree → LeafKind → Type 0
ComesToRest leaf tree (Silent bound) = EndsRightWithin leaf tree bound
ComesToRest leaf tree (Stable on_true on_false) = HoldsAt leaf tree true on_true × HoldsAt leaf tree false on_false

-- what a leaf computes, and how it comes to rest
pub record KindPart : Type 0 where
  pub tree : PredTree
  pub kind : LeafKind

abbrev pub part_of : KindPart → LeafPart
part_of kind = record { tree = kind.tree; bound = kind_bound kind.kind }

abbrev pub parts_of : List KindPart → List LeafPart
parts_of kinds = map part_of kinds

-- each leaf comes to rest in its way, and the net combines their predicates into this one
pub record ComeToRest (net : NetModel) (tree : PredTree) (kinds : List KindPart) : Type 0 where
  pub one_each : length kinds ≡ length net.leaves
  pub leaves : (i : ℕ) (leaf : LeafModel) (kind : KindPart) → slice_get net.leaves i ≡ Some leaf
      → slice_get kinds i ≡ Some kind → ComesToRest leaf kind.tree kind.kind
  pub combination : PartsCombineTo net (parts_of kinds) tree
