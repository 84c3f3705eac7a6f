use Rattle.std.proofs.Common.{◌≡◌, take}
use Rattle.pop_leaf.specs.InputCrowd.{starts_from, start_of}
use Rattle.pop_net.specs.Lanes.{crowd_of, AreValid}
use Rattle.pop_crowd.proofs.starts.start_words.Given as goal

abbrev pub invariant-loop-variable : goal.invariant-loop-variable
invariant-loop-variable l =
    record { start : crowd_of l.net l.words.items ≡ starts_from (start_of l.net) 0 (take l.variable l.counts); valid : AreValid l.net l.words.items }
