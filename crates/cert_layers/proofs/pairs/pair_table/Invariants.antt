use Rattle.cert_layers.specs.Waking.{IsWakingTable}
use Rattle.cert_layers.proofs.pairs.pair_table.Given as goal

abbrev pub invariant-loop-t : goal.invariant-loop-t
invariant-loop-t l = IsWakingTable l.leaf l.layer_of_move l.t l.layers.items
