-- A run by whole rounds is a watched run.
use Rattle.std.proofs.Common.{ℕ, ◌+◌, List, arith}
use Rattle.pop_leaf.specs.NetModel.{NetModel, CrowdModel}
use Rattle.pop_crowd.specs.declared.crowd.Meeting.{Meeting}
use Rattle.run_spec.specs.declared.spec.RunSpec.{RunSpec}
use Rattle.run_picks.specs.Run.{IsRunUntil, IsRound}
use Rattle.run_picks.specs.WatchedRun.{IsWatchedRound, IsWatchedRunUntil}
use Rattle.run_picks.proofs.SpentTurns.{over_by_meetings}

-- a whole round is a watched one
pub watched_round : (spec : RunSpec) (k : ℕ) (meetings : List Meeting) → IsRound spec k meetings → IsWatchedRound spec k meetings
watched_round spec k meetings r =
    record {
      some_turn = r.some_turn;
      each_worker = λ w l. let e = r.each_worker w l in omega (arith, e);
      nobody_else = r.nobody_else;
    }

-- a run by whole rounds is a watched run
pub whole_is_watched : {rest : NetModel} (net : NetModel) (start : CrowdModel) (spec : RunSpec) (rounds : List (List Meeting)) (end : CrowdModel) → IsRunUntil rest net start spec rounds end → IsWatchedRunUntil rest net start spec rounds end
whole_is_watched net start spec rounds end run =
    record {
      each_round = λ k meetings h. watched_round spec (k + 1) meetings (run.each_round k meetings h);
      whole = λ k meetings l h. run.each_round k meetings h;
      picked = run.picked;
      marked = run.marked;
      replays = run.replays;
      goes_on = run.goes_on;
      over = over_by_meetings spec rounds run.each_round run.over;
    }
