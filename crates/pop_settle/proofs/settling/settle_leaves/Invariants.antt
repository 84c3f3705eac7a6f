use Rattle.pop_net.specs.Lanes.{crowd_of}
use Rattle.pop_settle.specs.Walks.{IsQuietBefore, WalksOn}
use Rattle.pop_settle.proofs.settling.settle_leaves.Given as goal

abbrev pub invariant-loop-leaf : goal.invariant-loop-leaf
invariant-loop-leaf l = record {
  walked : WalksOn l.by.net.now l.by.proof.now l.fn.walk l.walk;
  quiet : IsQuietBefore l.by.net.now l.by.proof.now (crowd_of l.by.net.now l.walk.words.items) l.leaf 0;
}
