-- RunLimits: the limits of a run's numbers.
use Rattle.std.specs.Prelude.{◌≤◌}
use Rattle.pop_io.specs.declared.gate.TheConstants.{WORKER_LIMIT, SHARD_LIMIT}
use Rattle.run_spec.specs.declared.spec.TheConstants.{TURN_LIMIT, SEED_LIMIT}
use Rattle.run_spec.specs.declared.spec.RunSpec.{RunSpec}

-- each number is within its limits for a whole run, which are those of any run but for the number of workers
pub record IsWithinLimits (spec : RunSpec) : Type 0 where
  pub workers : (1 ≤ spec.workers) × (spec.workers ≤ WORKER_LIMIT)
  pub shards : (1 ≤ spec.shards) × (spec.shards ≤ SHARD_LIMIT)
  pub turns : spec.turns ≤ TURN_LIMIT
  pub seed : spec.seed ≤ SEED_LIMIT
