use Rattle.std.proofs.Common.{◌≡◌, ℕ, ◌-◌, ◌≤◌, length}
use Rattle.std.specs.Prelude.{Some, slice_get}
use Rattle.pop_settle.specs.Search.{IsStretch}
use Rattle.pop_settle.proofs.runs.run_ends.Given as goal

abbrev pub invariant-loop-i : goal.invariant-loop-i
invariant-loop-i l = record {
  long : length l.ends.items ≡ length l.moves;
  done : (k end : ℕ) → length l.moves - l.i ≤ k → slice_get l.ends.items k ≡ Some end → IsStretch l.leaf l.moves k end;
}
