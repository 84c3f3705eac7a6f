use Rattle.std.proofs.Common.{◌≡◌, replicate}
use Rattle.cert_layers.specs.declared.pairs.TheConstants.{NO_LAYER}
use Rattle.cert_layers.proofs.pairs.no_layers.Given as goal

abbrev pub invariant-loop-entry : goal.invariant-loop-entry
invariant-loop-entry l = l.layers.items ≡ replicate l._entry NO_LAYER
