use Rattle.std.proofs.Common.{◌≡◌, length}
use Rattle.base_lines.specs.Lines.{lines_of}
use Rattle.pop_net.specs.Lanes.{crowd_of, AreValid}
use Rattle.tool_nets.specs.declared.play.TheConstants.{MEETINGS_LINE}
use Rattle.tool_nets.specs.Play.{on_from}
use Rattle.tool_nets.proofs.Played.{Playing}
use Rattle.tool_nets.proofs.play.end_of.Given as goal

abbrev pub invariant-lines : goal.invariant-lines
invariant-lines l =
    Playing (on_from l.net (length l.fn.crowd) l.number (crowd_of l.net l.crowd) (lines_of l.rest) ≡ on_from l.net (length l.fn.crowd) MEETINGS_LINE (crowd_of l.net l.fn.crowd) (lines_of l.lines))
    (AreValid l.net l.crowd) (length l.fn.crowd) (length l.crowd) l.number (length (lines_of l.rest)) (length (lines_of l.lines))

abbrev pub decreases-lines : goal.decreases-lines
decreases-lines l = length (lines_of l.rest)
