use Rattle.std.proofs.Common.{ℕ, ◌<◌, None}
use Rattle.cert_layers.specs.Waking.{FindsFirst}
use Rattle.cert_sets.specs.SetTests.{wakes_one}
use Rattle.cert_sets.proofs.sleep.first_woken.Given as goal

abbrev pub invariant-loop-t : goal.invariant-loop-t
invariant-loop-t l = (n : ℕ) → n < l.t → FindsFirst (wakes_one l.leaf l.awake l.members n) None
