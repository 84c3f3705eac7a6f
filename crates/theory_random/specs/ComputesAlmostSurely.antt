-- ComputesAlmostSurely: with probability 1 the crowd settles with the predicate's value, and how soon.
use Rattle.std.specs.Prelude.{◌≡◌, ℕ, ◌*◌, ◌-◌, ◌^◌, ◌<◌, ◌≤◌, Bool, true, Decides, List, length, All, Contains}
use Rattle.pres_ast.specs.PredTree.{PredTree}
use Rattle.pres_ast.specs.PredicateValue.{predicate_value}
use Rattle.pop_leaf.specs.NetModel.{NetModel, CrowdModel, number_of_helpers, output_of}
use Rattle.pop_leaf.specs.InputCrowd.{IsInput, input_crowd}
use Rattle.pop_leaf.specs.Step.{Step}
use Rattle.pop_leaf.specs.Reachable.{Reachable}
use Rattle.pop_leaf.specs.Terminal.{IsTerminal}
use Rattle.theory_random.specs.RandomMeetings.{pairs, runs, run_count, cubic, meet, is_settled}
use Rattle.theory_random.specs.RandomMeetings.{unsettled, total_time}

-- what the test `is_settled` says of a crowd
pub record TellsSettled (net : NetModel) (value : Bool) (crowd : CrowdModel) : Type 0 where
  -- the crowd is terminal, and the value is every agent's output
  pub settled : Decides (is_settled net value crowd)
      (IsTerminal (Step net) crowd × All (λ tuple. output_of net tuple ≡ value) crowd)
  -- it then stays as it is, whoever meets
  pub stays : (p : ℕ × ℕ) → Contains (pairs (length crowd)) p → is_settled net value crowd ≡ true
      → meet net p crowd ≡ crowd

-- random meetings go on at a crowd of n agents, T of them before it is settled; k meetings per agent are k * n
pub record SettlesAlmostSurely (net : NetModel) (value : Bool) (k : ℕ) (crowd : CrowdModel) : Type 0 where
  pub test : TellsSettled net value crowd
  -- there are c ^ m runs of m * k meetings per agent, with c = run_count k n
  pub count : (m : ℕ) → length (runs (length crowd) (m * (k * length crowd))) ≡ run_count k (length crowd) ^ m
  -- P(T > m * k * n) <= (1 - 1 / c) ^ m
  pub tail : (m : ℕ)
      → unsettled net value (m * (k * length crowd)) crowd ≤ (run_count k (length crowd) - 1) ^ m
  -- P(T > l) < 1 / e for all l >= e * c * k * n: so the crowd settles with probability 1
  pub vanishes : (e l : ℕ) → e * run_count k (length crowd) * (k * length crowd) ≤ l
      → unsettled net value l crowd * e < length (runs (length crowd) l)
  -- E[min(T, l)] <= k * n * c for all l: so E[T] <= k * n * c
  pub expected : (l : ℕ) → total_time net value l crowd
      ≤ k * length crowd * run_count k (length crowd) * length (runs (length crowd) l)

-- the same with bounds that are polynomial
pub record SettlesInCubicTime (net : NetModel) (value : Bool) (k : ℕ) (crowd : CrowdModel) : Type 0 where
  pub test : TellsSettled net value crowd
  -- E[min(T, l)] <= k * n * n * (n - 1) / 2 for all l: so E[T] is at most that
  pub expected : (l : ℕ)
      → 2 * total_time net value l crowd ≤ cubic k (length crowd) * length (runs (length crowd) l)
  -- P(T > l) <= k * n * n * (n - 1) / (2 * l)
  pub tail : (l : ℕ)
      → 2 * (unsettled net value l crowd * l) ≤ cubic k (length crowd) * length (runs (length crowd) l)

-- random meetings settle each crowd on the way from an input so, with the predicate's value
abbrev pub SettleOnTheWay : NetModel → PredTree → (Bool → CrowdModel → Type 0) → Type 0
SettleOnTheWay net tree Settles =
    (counts : List ℕ) (crowd : CrowdModel) → IsInput (length net.variables) (number_of_helpers net) counts
    → Reachable (Step net) (input_crowd net counts) crowd → Settles (predicate_value tree counts) crowd

abbrev pub ComputesAlmostSurely : NetModel → PredTree → ℕ → Type 0
ComputesAlmostSurely net tree k = SettleOnTheWay net tree (λ value crowd. SettlesAlmostSurely net value k crowd)

abbrev pub ComputesInCubicTime : NetModel → PredTree → ℕ → Type 0
ComputesInCubicTime net tree k = SettleOnTheWay net tree (λ value crowd. SettlesInCubicTime net value k crowd)
