-- Whole runs are watched runs, whatever net says where they end.
use Rattle.std.specs.Prelude.{List}
use Rattle.pop_leaf.specs.NetModel.{NetModel, CrowdModel}
use Rattle.pop_crowd.specs.declared.crowd.Meeting.{Meeting}
use Rattle.run_spec.specs.declared.spec.RunSpec.{RunSpec}
use Rattle.run_picks.specs.Run.{IsRunUntil}
use Rattle.run_picks.specs.WatchedRun.{IsWatchedRunUntil}

abbrev pub WholeRunsAreWatched : Type 0
WholeRunsAreWatched =
    (rest net : NetModel) (start : CrowdModel) (spec : RunSpec) (rounds : List (List Meeting)) (end : CrowdModel)
    → IsRunUntil rest net start spec rounds end → IsWatchedRunUntil rest net start spec rounds end
