-- The last line of a watched run.
use Rattle.std.proofs.Common.{List}
use Rattle.pop_leaf.specs.NetModel.{NetModel, CrowdModel}
use Rattle.run_spec.specs.declared.spec.RunSpec.{RunSpec}
use Rattle.pop_watch.specs.WatchedEnds.{WatchedEndsBy}
use Rattle.pop_crowd.specs.declared.crowd.Meeting.{Meeting}
use Rattle.run_picks.specs.declared.alone.End.{End}
use Rattle.run_picks.specs.declared.alone.End.TheVariants.{Terminal, Open}
use Rattle.tool_bundles.specs.LastPair.{IsLast}
use Rattle.tool_courses.specs.RunOutput.{open_pair}

-- why a run ended says whether its last crowd is terminal
pub watched_last : (net : NetModel) (crowd : CrowdModel) (spec : RunSpec) (rounds : List (List Meeting)) (end : End) → WatchedEndsBy net crowd spec rounds end → IsLast net crowd (open_pair end)
watched_last net crowd spec rounds Terminal by = by
watched_last net crowd spec rounds (Open a b) by = by.0
