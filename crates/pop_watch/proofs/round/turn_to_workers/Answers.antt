use Rattle.std.proofs.Common.{false, arith}
use Rattle.pop_watch.proofs.Renumbered.{turn_next}
use Rattle.pop_watch.proofs.round.turn_to_workers.Goals as goal

pub meetings-preserved : goal.meetings-preserved
meetings-preserved c =
    turn_next c.args.meetings.now c.meetings.meetings c.meetings.meeting-index (record { worker = 0; a = 0; b = 0; changed = false })
    (omega (arith, c.meetings.auto.meeting-index-end)) c.meetings.invariant
