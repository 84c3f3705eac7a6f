use Rattle.std.proofs.Common.{◌≡◌, ◌+◌, ◌≤◌, length}
use Rattle.base_lines.specs.Lines.{lines_of}
use Rattle.pop_net.specs.Lanes.{crowd_of, AreValid}
use Rattle.tool_nets.specs.Play.{on_from}
use Rattle.tool_nets.proofs.play.play_short.Given as goal

abbrev pub invariant-lines : goal.invariant-lines
invariant-lines l = record {
  same : on_from l.net (length l.fn.crowd) l.next (crowd_of l.net l.crowd) (lines_of l.rest) ≡ on_from l.net (length l.fn.crowd) l.number (crowd_of l.net l.fn.crowd) (lines_of l.lines);
  valid : AreValid l.net l.crowd;
  agents : length l.crowd ≡ length l.fn.crowd;
  later : l.number ≤ l.next;
  counted : l.next + length (lines_of l.rest) ≡ l.number + length (lines_of l.lines);
}

abbrev pub decreases-lines : goal.decreases-lines
decreases-lines l = length (lines_of l.rest)
