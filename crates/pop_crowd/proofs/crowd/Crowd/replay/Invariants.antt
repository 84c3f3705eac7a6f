use Rattle.std.proofs.Common.{◌≡◌, ◌+◌, ◌≤◌, length, drop}
use Rattle.pop_net.specs.Lanes.{crowd_of, AreValid}
use Rattle.pop_crowd.specs.Replay.{replay, change_count}
use Rattle.pop_crowd.proofs.crowd.Crowd.replay.Given as goal

abbrev pub invariant-loop-meeting : goal.invariant-loop-meeting
invariant-loop-meeting l =
    record {
      rest : replay l.net (drop l.meeting-index l.meetings) (crowd_of l.net l.self) ≡ replay l.net l.meetings (crowd_of l.net l.fn.self);
      counted : l.changed + change_count l.net (drop l.meeting-index l.meetings) (crowd_of l.net l.self) ≡ change_count l.net l.meetings (crowd_of l.net l.fn.self);
      small : l.changed ≤ l.meeting-index;
      valid : AreValid l.net l.self;
      agents : length l.self ≡ length l.fn.self;
    }
