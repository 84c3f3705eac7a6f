-- The last line of a run.
use Rattle.std.proofs.Common.{ℕ}
use Rattle.pop_leaf.specs.NetModel.{NetModel, CrowdModel}
use Rattle.run_spec.specs.declared.spec.RunSpec.{RunSpec}
use Rattle.run_picks.specs.Ends.{EndsBy}
use Rattle.run_picks.specs.declared.alone.End.{End}
use Rattle.run_picks.specs.declared.alone.End.TheVariants.{Terminal, Open}
use Rattle.tool_bundles.specs.LastPair.{IsLast}
use Rattle.tool_courses.specs.RunOutput.{open_pair}

-- why a run ended says whether its last crowd is terminal
pub run_last : (net : NetModel) (crowd : CrowdModel) (spec : RunSpec) (rounds : ℕ) (end : End) → EndsBy net crowd spec rounds end → IsLast net crowd (open_pair end)
run_last net crowd spec rounds Terminal by = by
run_last net crowd spec rounds (Open a b) by = by.0
