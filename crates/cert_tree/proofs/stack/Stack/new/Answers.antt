use Rattle.std.proofs.Common.{length, ap, ◌∙◌}
use Rattle.cert_tree.specs.declared.stack.Frame.{Frame}
use Rattle.cert_tree.specs.declared.stack.Stack.{Stack}
use Rattle.cert_tree.proofs.Puts.{first_put}
use Rattle.cert_tree.proofs.stack.Stack.new.Goals as goal

pub returns-clause-waits : goal.returns-clause-waits
returns-clause-waits c =
    let frame : Frame = record { len = c.len.result; cases = c.into_vec.result } in
    let stack : Stack = record { trail = c.new-trail.result; frames = c.push.new.self } in
    first_put stack frame c.args.facts c.args.cases c.new-trail.ensures (rw c.new-frames.ensures.items at c.in_ok-push.ensures.items) (c.len.ensures.length ∙ ap length c.new-trail.ensures) c.into_vec.ensures
