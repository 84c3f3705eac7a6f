use Rattle.std.proofs.Common.{◌∙◌}
use Rattle.terminal_test.proofs.RestlessStates.{restless_more, pairs_here}
use Rattle.terminal_test.proofs.restless.restless_states.Goals as goal

pub leaf_marks-requires-clause-pairs : goal.leaf_marks-requires-clause-pairs
leaf_marks-requires-clause-pairs c =
    λ leaf h. c.as_slice.ensures ∙ pairs_here c.args.net.now c.args.loud.now c.loop-leaf.leaf c.index-loud-leaf.result c.requires.pairs c.index-loud-leaf.is leaf h

pub loop-leaf-preserved : goal.loop-leaf-preserved
loop-leaf-preserved c =
    restless_more c.args.net.now _ c.loop-leaf.restless.items _ c.loop-leaf.leaf c.in_ok-leaf_marks.field-0 c.in_ok-push.ensures.items c.in_ok-leaf_marks.ensures c.loop-leaf.invariant
