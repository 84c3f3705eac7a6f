use Rattle.std.proofs.Common.{◌≡◌, reverse, vec_len}
use Rattle.cert_tree.specs.Walks.{waiting_outside, AreSound}
use Rattle.cert_tree.proofs.walk.Walk.leave_rooms.Given as goal

abbrev pub invariant-loop-room : goal.invariant-loop-room
invariant-loop-room l = record {
  waits : waiting_outside l.initial.self ≡ waiting_outside l.self;
  sound : AreSound (reverse l.self.outside.items);
}

abbrev pub decreases-loop-room : goal.decreases-loop-room
decreases-loop-room l = vec_len l.self.outside
