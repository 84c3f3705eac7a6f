use Rattle.cert_layers.proofs.Filled.{Filled}
use Rattle.cert_layers.proofs.move_layers.layers_of_moves.Given as goal

abbrev pub invariant-loop-i : goal.invariant-loop-i
invariant-loop-i l = Filled l.leaf l.layers l.i l.layer_of_move.items
