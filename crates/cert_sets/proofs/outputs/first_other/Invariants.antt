use Rattle.std.proofs.Common.{◌≡◌, ℕ, ◌<◌, Some}
use Rattle.std.specs.Prelude.{slice_get}
use Rattle.cert_sets.specs.SetFaults.{HasOutput}
use Rattle.cert_sets.proofs.outputs.first_other.Given as goal

abbrev pub invariant-loop-q : goal.invariant-loop-q
invariant-loop-q l = (k p : ℕ) → k < l.q-index → slice_get l.set k ≡ Some p → HasOutput l.leaf l.value p
