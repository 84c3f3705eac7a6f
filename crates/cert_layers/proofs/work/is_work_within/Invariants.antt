use Rattle.std.proofs.Common.{◌≡◌, ◌+◌, ◌-◌, ◌^◌, drop}
use Rattle.std.specs.Prelude.{min}
use Rattle.cert_layers.specs.TameWork.{tame_work}
use Rattle.cert_layers.proofs.work.is_work_within.Given as goal

abbrev pub invariant-loop-i : goal.invariant-loop-i
invariant-loop-i l =
    min (l.work + tame_work l.leaf (drop l.i l.layers)) (2 ^ 64 - 1) ≡ min (tame_work l.leaf l.layers) (2 ^ 64 - 1)
