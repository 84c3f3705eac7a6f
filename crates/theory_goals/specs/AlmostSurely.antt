-- AlmostSurely: meetings of uniformly random pairs bring the outputs to rest with probability 1, and how soon. All runs
-- of l meetings are equally likely. So a bound on how many runs don't do it is one on the probability.
use Rattle.std.specs.Prelude.{◌≡◌, ◌⊎◌, ℕ, zero, suc, ◌+◌, ◌*◌, ◌-◌, ◌^◌, ◌<◌, ◌≤◌, Bool, List, length, Contains}
use Rattle.pres_ast.specs.PredTree.{PredTree}
use Rattle.pop_leaf.specs.NetModel.{NetModel, CrowdModel}
use Rattle.theory_random.specs.UniformRuns.{after_run}
use Rattle.theory_random.specs.RandomMeetings.{pairs, runs, run_count, meet}
use Rattle.theory_random.specs.ComputesAlmostSurely.{SettleOnTheWay}
use Rattle.theory_goals.specs.OutputStable.{IsOutputStable}

-- P holds of all these but at most q
pub record AllBut {A : Type 0} (q : ℕ) (xs : List A) (P : A → Type 0) : Type 0 where
  pub others : List A
  pub few : length others ≤ q
  pub rest : (x : A) → Contains xs x → Contains others x ⊎ P x

-- the sum of the shares few i / n ^ i over all i below l, times n ^ l
abbrev pub sum_of_shares : (ℕ → ℕ) → ℕ → ℕ → ℕ
sum_of_shares few n zero = 0
sum_of_shares few n (suc l) = (sum_of_shares few n l + few l) * n

-- the run leads the crowd to one from which on every agent outputs the value
abbrev pub LeadsToOutput : NetModel → Bool → CrowdModel → List (ℕ × ℕ) → Type 0
LeadsToOutput net value crowd run = IsOutputStable net value (after_run (meet net) run crowd)

-- random meetings go on at a crowd of n agents, T of them before the outputs have come to rest; k meetings per agent
-- are k * n
pub record RestsAlmostSurely (net : NetModel) (value : Bool) (k : ℕ) (crowd : CrowdModel) : Type 0 where
  -- there are c ^ m runs of m * k meetings per agent, with c = run_count k n
  pub count : (m : ℕ) → length (runs (length crowd) (m * (k * length crowd))) ≡ run_count k (length crowd) ^ m
  -- P(T > m * k * n) <= (1 - 1 / c) ^ m
  pub tail : (m : ℕ) → AllBut ((run_count k (length crowd) - 1) ^ m) (runs (length crowd) (m * (k * length crowd)))
      (LeadsToOutput net value crowd)
  -- P(T > l) < 1 / e for all l >= e * c * k * n: so the outputs come to rest with probability 1
  pub vanishes : (e l : ℕ) → e * run_count k (length crowd) * (k * length crowd) ≤ l
      → (q : ℕ) × (q * e < length (runs (length crowd) l))
      × AllBut q (runs (length crowd) l) (LeadsToOutput net value crowd)
  -- E[min(T, l)] = P(T > 0) + .. + P(T > l - 1) <= k * n * c for all l: so E[T] <= k * n * c. Here few i of the N ^ i
  -- runs of i meetings bound P(T > i), with the N pairs
  pub expected : (few : ℕ → ℕ)
      × ((i : ℕ) → AllBut (few i) (runs (length crowd) i) (LeadsToOutput net value crowd))
      × ((l : ℕ) → sum_of_shares few (length (pairs (length crowd))) l
      ≤ k * length crowd * run_count k (length crowd) * length (runs (length crowd) l))

-- at each crowd on the way from an input, with the predicate's value
abbrev pub RestAlmostSurely : NetModel → PredTree → ℕ → Type 0
RestAlmostSurely net tree k = SettleOnTheWay net tree (λ value crowd. RestsAlmostSurely net value k crowd)
