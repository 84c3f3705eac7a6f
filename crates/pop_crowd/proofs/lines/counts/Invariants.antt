use Rattle.std.proofs.Common.{◌≡◌, take}
use Rattle.pop_net.specs.Lanes.{crowd_of}
use Rattle.pop_crowd.specs.Tally.{tuple_counts}
use Rattle.pop_crowd.specs.Shown.{shown}
use Rattle.pop_crowd.proofs.lines.counts.Given as goal

abbrev pub invariant-loop-word : goal.invariant-loop-word
invariant-loop-word l = shown l.counts.entries ≡ tuple_counts (crowd_of l.net (take l.word-index l.words))
