use Rattle.std.proofs.Common.{◌≡◌, ◌++◌, ◌^◌, map}
use Rattle.std.specs.List.{range_with_len}
use Rattle.comp_flock.proofs.worths.push_powers.Given as goal

abbrev pub invariant-loop-i : goal.invariant-loop-i
invariant-loop-i l = l.worths.items ≡ l.fn.worths.items ++ map (λ i. 2 ^ i) (range_with_len 0 l.i)
