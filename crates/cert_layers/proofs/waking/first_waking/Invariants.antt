use Rattle.std.proofs.Common.{ℕ, ◌<◌, None}
use Rattle.cert_layers.specs.Waking.{FindsFirst, wakes_at}
use Rattle.cert_layers.proofs.waking.first_waking.Given as goal

abbrev pub invariant-loop-t : goal.invariant-loop-t
invariant-loop-t l = (n : ℕ) → n < l.t → FindsFirst (wakes_at l.leaf l.layer_of_move l.table n) None
