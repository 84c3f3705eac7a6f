-- Runs: what the headline says of the runs of bundles with goals and without.
use Rattle.std.specs.Prelude.{◌≡◌, ◌*◌, ◌≤◌, ℕ}
use Rattle.pop_leaf.specs.NetModel.{NetModel, CrowdModel}
use Rattle.pop_leaf.specs.Step.{Step}
use Rattle.pop_leaf.specs.Terminal.{IsTerminal}
use Rattle.terminal_test.specs.Pairs.{IsLeastPair}
use Rattle.run_spec.specs.declared.kind.RunKind.{RunKind}
use Rattle.run_spec.specs.declared.spec.RunSpec.{RunSpec}
use Rattle.run_spec.specs.declared.spec.TheConstants.{MEETING_LIMIT}
use Rattle.run_spec.specs.RunLimits.{IsWithinLimits}
use Rattle.run_spec.specs.Kinds.{most_workers_of}
use Rattle.run_text.specs.declared.last.Last.{Last}
use Rattle.run_text.specs.declared.last.Last.TheVariants.{Undecided as UndecidedBy}

-- the last line of a journal that ends in this crowd: the line that is told of a terminal one, if no move of this net
-- is possible in it, and else the least pair of agents that such a move changes
pub record IsLastLine (net : NetModel) (told : Last) (end : CrowdModel) (last : Last) : Type 0 where
  pub ended : IsTerminal (Step net) end → last ≡ told
  pub undecided : ¬ IsTerminal (Step net) end
      → (a : ℕ) × (b : ℕ) × IsLeastPair net end a b × (last ≡ UndecidedBy a b)

-- the numbers of a run of this kind are within their limits
pub record IsAllowedRun (kind : RunKind) (spec : RunSpec) : Type 0 where
  pub each : IsWithinLimits spec
  pub workers : spec.workers ≤ most_workers_of kind
  pub meetings : spec.workers * spec.turns ≤ MEETING_LIMIT
