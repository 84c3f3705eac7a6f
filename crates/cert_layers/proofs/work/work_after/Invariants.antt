use Rattle.std.proofs.Common.{◌≡◌, ◌≤◌, ◌+◌, ◌-◌, ◌^◌, drop}
use Rattle.std.specs.Prelude.{min, sum_by}
use Rattle.cert_layers.specs.TameWork.{work_between}
use Rattle.cert_layers.proofs.work.work_after.Given as goal

abbrev pub invariant-loop-later : goal.invariant-loop-later
invariant-loop-later l = record {
  so_far : min (l.work + sum_by (work_between l.leaf l.layer) (drop l.later-index l.others)) (2 ^ 64 - 1) ≡ min (sum_by (work_between l.leaf l.layer) l.others) (2 ^ 64 - 1);
  fits : l.work ≤ 2 ^ 64 - 1;
}
