use Rattle.std.proofs.Common.{◌≡◌, ◌++◌, map, take}
use Rattle.run_text.specs.Journal.{text_of}
use Rattle.tool_proofs.specs.Settle.{take_line}
use Rattle.tool_proofs.proofs.settle.push_takes.Given as goal

abbrev pub invariant-loop-take : goal.invariant-loop-take
invariant-loop-take l = l.text.items ≡ l.fn.text.items ++ text_of (map take_line (take l.take-index l.takes))
