use Rattle.std.proofs.Common.{◌≡◌, drop}
use Rattle.cert_layers.specs.MoveLayers.{enter_all}
use Rattle.cert_layers.proofs.move_layers.enter_moves.Given as goal

abbrev pub invariant-loop-number : goal.invariant-loop-number
invariant-loop-number l = enter_all l.layer_of_move.items l.layer (drop l.number-index l.moves) ≡ enter_all l.initial.layer_of_move.items l.layer l.moves
