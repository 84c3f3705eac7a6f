use Rattle.terminal_test.specs.Restless.{AreMarkedTo}
use Rattle.terminal_test.proofs.restless.marked_states.Given as goal

abbrev pub invariant-loop-pair : goal.invariant-loop-pair
invariant-loop-pair l = AreMarkedTo l.pairs l.seen l.marks.items l.pair-index
