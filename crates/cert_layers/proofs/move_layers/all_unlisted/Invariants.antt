use Rattle.std.proofs.Common.{◌≡◌, None, replicate}
use Rattle.cert_layers.proofs.move_layers.all_unlisted.Given as goal

abbrev pub invariant-loop-t : goal.invariant-loop-t
invariant-loop-t l = l.layer_of_move.items ≡ replicate l._t None
