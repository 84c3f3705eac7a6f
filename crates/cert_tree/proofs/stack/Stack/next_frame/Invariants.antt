use Rattle.std.proofs.Common.{◌≡◌, vec_len}
use Rattle.cert_tree.specs.Frames.{stacked, IsNested}
use Rattle.cert_tree.proofs.stack.Stack.next_frame.Given as goal

abbrev pub invariant-loop-frame : goal.invariant-loop-frame
invariant-loop-frame l = record {
  trail : l.initial.self.trail ≡ l.self.trail;
  waits : stacked l.initial.self ≡ stacked l.self;
  nested : IsNested l.self;
}

abbrev pub decreases-loop-frame : goal.decreases-loop-frame
decreases-loop-frame l = vec_len l.self.frames
