-- Laws: a net that few meetings can always lead to a right end computes its predicate almost surely.
use Rattle.std.specs.Prelude.{◌≡◌, ◌≢◌, ◌⊎◌, ℕ, ◌*◌, ◌-◌, ◌^◌, ◌<◌, ◌≤◌, ◌↔◌, List, length, All, AllPairs, Contains}
use Rattle.pres_ast.specs.PredTree.{PredTree}
use Rattle.pres_ast.specs.PredicateValue.{predicate_value}
use Rattle.pop_leaf.specs.NetModel.{NetModel, CrowdModel, number_of_helpers, output_of}
use Rattle.pop_leaf.specs.InputCrowd.{IsInput, input_crowd}
use Rattle.pop_leaf.specs.Step.{Step}
use Rattle.pop_leaf.specs.Reachable.{Reachable}
use Rattle.pop_leaf.specs.Terminal.{IsTerminal}
use Rattle.theory_random.specs.UniformRuns.{after_run}
use Rattle.theory_random.specs.RandomMeetings.{pairs, runs, meet}
use Rattle.theory_random.specs.ComputesAlmostSurely.{ComputesAlmostSurely, ComputesInCubicTime}

-- two different agents of n
abbrev pub IsPair : ℕ → ℕ × ℕ → Type 0
IsPair n p = (p.0 ≢ p.1) × (p.0 < n) × (p.1 < n)

-- if the crowd is terminal, the output of every agent is the predicate's value
abbrev pub IsRightIfTerminal : NetModel → PredTree → List ℕ → CrowdModel → Type 0
IsRightIfTerminal net tree counts crowd =
    IsTerminal (Step net) crowd → All (λ tuple. output_of net tuple ≡ predicate_value tree counts) crowd

-- at a crowd that was reached from the input with these counts
pub record EndsByPairs (net : NetModel) (tree : PredTree) (k : ℕ) (counts : List ℕ) (crowd : CrowdModel)
    : Type 0 where
  -- some meetings lead to a terminal crowd, at most k per agent
  pub ends : (run : List (ℕ × ℕ)) × All (IsPair (length crowd)) run × (length run ≤ k * length crowd)
      × IsTerminal (Step net) (after_run (meet net) run crowd)
  pub right : IsRightIfTerminal net tree counts crowd

abbrev pub AlwaysEndsByPairs : NetModel → PredTree → ℕ → Type 0
AlwaysEndsByPairs net tree k =
    (counts : List ℕ) (crowd : CrowdModel) → IsInput (length net.variables) (number_of_helpers net) counts
    → Reachable (Step net) (input_crowd net counts) crowd → EndsByPairs net tree k counts crowd

abbrev pub RandomMeetingsCompute : Type 0
RandomMeetingsCompute =
    (net : NetModel) (tree : PredTree) (k : ℕ) → AlwaysEndsByPairs net tree k → ComputesAlmostSurely net tree k

-- at a crowd that was reached from the input with these counts
pub record FallsByPairs (net : NetModel) (tree : PredTree) (k : ℕ) (height : CrowdModel → ℕ) (counts : List ℕ)
    (crowd : CrowdModel) : Type 0 where
  pub low : height crowd ≤ k * length crowd
  -- no meeting raises the height
  pub falls : (p : ℕ × ℕ) → IsPair (length crowd) p → height (meet net p crowd) ≤ height crowd
  -- the crowd is terminal, or some meeting lowers it, whichever of the two agents comes first
  pub lowered : IsTerminal (Step net) crowd
      ⊎ ((p : ℕ × ℕ) × IsPair (length crowd) p × (height (meet net p crowd) < height crowd)
      × (height (meet net (p.1, p.0) crowd) < height crowd))
  pub right : IsRightIfTerminal net tree counts crowd

abbrev pub AlwaysFallsByPairs : NetModel → PredTree → ℕ → (CrowdModel → ℕ) → Type 0
AlwaysFallsByPairs net tree k height =
    (counts : List ℕ) (crowd : CrowdModel) → IsInput (length net.variables) (number_of_helpers net) counts
    → Reachable (Step net) (input_crowd net counts) crowd → FallsByPairs net tree k height counts crowd

abbrev pub FallingIsCubic : Type 0
FallingIsCubic =
    (net : NetModel) (tree : PredTree) (k : ℕ) (height : CrowdModel → ℕ)
    → AlwaysFallsByPairs net tree k height → ComputesInCubicTime net tree k

-- the list of pairs has each pair once, and that of runs each run
pub record AreUniform : Type 0 where
  pub pairs_are : (n : ℕ) (p : ℕ × ℕ) → Contains (pairs n) p ↔ IsPair n p
  pub pairs_once : (n : ℕ) → AllPairs ◌≢◌ (pairs n)
  pub pair_count : (n : ℕ) → length (pairs n) ≡ n * (n - 1)
  pub runs_are : (n l : ℕ) (run : List (ℕ × ℕ))
      → Contains (runs n l) run ↔ ((length run ≡ l) × All (IsPair n) run)
  pub runs_once : (n l : ℕ) → AllPairs ◌≢◌ (runs n l)
  pub count : (n l : ℕ) → length (runs n l) ≡ (n * (n - 1)) ^ l
