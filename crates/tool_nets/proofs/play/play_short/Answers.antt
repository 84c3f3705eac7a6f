use Rattle.std.proofs.Common.{ℕ, List, length, ap, ◌∙◌, arith}
use Rattle.base_lines.specs.Lines.{lines_of}
use Rattle.pop_net.specs.Lanes.{crowd_of}
use Rattle.tool_nets.specs.Play.{paired}
use Rattle.tool_nets.proofs.Played.{one_line}
use Rattle.tool_nets.proofs.play.play_short.Goals as goal

pub lines-preserved : goal.lines-preserved
lines-preserved c =
    let net = c.args.net.now in
    let kept = c.lines.invariant in
    let met = c.meet.ensures in
    let first = c.in-Some.ensures in record {
      same = one_line net c.len.result (length c.args.crowd.now) c.lines.next (crowd_of net c.lines.crowd) (crowd_of net c.meet.new.self) first.line (lines_of c.lines.rest.now) (lines_of c.in-Some.more.now) _ c.in-Some.a c.in-Some.b
          (c.len.ensures.count ∙ kept.agents) first.lines (ap (paired c.lines.next) first.pair) met.after kept.same;
      valid = met.valid;
      agents = met.agents ∙ kept.agents;
      later = omega (arith, kept.later);
      counted = omega (arith, kept.counted, ap (length {A = List ℕ}) first.lines);
    }
