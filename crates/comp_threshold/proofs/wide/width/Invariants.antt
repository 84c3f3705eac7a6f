use Rattle.std.proofs.Common.{◌≡◌, ◌+◌, take}
use Rattle.std.specs.Prelude.{nat_abs, fold}
use Rattle.comp_threshold.specs.ThresholdLeaf.{greater}
use Rattle.comp_threshold.proofs.wide.width.Given as goal

abbrev pub invariant-loop-a : goal.invariant-loop-a
invariant-loop-a l = l.s ≡ fold (λ s a. greater s (nat_abs a)) (nat_abs l.bound + 1) (take l.a-index l.coefs)
