use Rattle.std.proofs.Common.{◌≡◌, ℕ, ◌<◌, List, Some}
use Rattle.std.specs.Prelude.{slice_get}
use Rattle.cert_base.specs.ValidLayers.{moves_of_layers}
use Rattle.cert_sets.specs.SetFaults.{IsGoodSet}
use Rattle.cert_sets.proofs.sets.each_checked.Given as goal

abbrev pub invariant-loop-j : goal.invariant-loop-j
invariant-loop-j l = (k : ℕ) (good : List ℕ) → k < l.j → slice_get l.sets k ≡ Some good
    → IsGoodSet l.given.leaf.now (moves_of_layers l.given.layers.now) l.value good
