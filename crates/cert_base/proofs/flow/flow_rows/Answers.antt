use Rattle.std.proofs.Common.{◌≡◌, ◌∙◌, ap, length, arith}
use Rattle.cert_base.specs.Parts.{flow_rows_after}
use Rattle.cert_base.proofs.flow.flow_rows.Goals as goal

pub returns-clause-rows : goal.returns-clause-rows
returns-clause-rows c =
    let all : c.loop-t.t ≡ length c.args.leaf.now.moves = omega (arith, c.move_count-t-end.ensures, c.loop-t-test.false, c.loop-t.auto.t-end) in
    c.loop-t.invariant ∙ ap (flow_rows_after c.args.leaf.now) all
