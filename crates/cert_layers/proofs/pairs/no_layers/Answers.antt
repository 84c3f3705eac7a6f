use Rattle.std.proofs.Common.{◌≡◌, ℕ, replicate, subst, arith}
use Rattle.cert_layers.specs.declared.pairs.TheConstants.{PAIR_COUNT, NO_LAYER}
use Rattle.cert_layers.specs.Waking.{empty_table}
use Rattle.cert_layers.proofs.pairs.no_layers.Goals as goal

pub returns : goal.returns
unfolding empty_table
returns c =
    let all : c.loop-entry._entry ≡ PAIR_COUNT = omega arith in
    subst (λ (n : ℕ). c.loop-entry.layers.items ≡ replicate n NO_LAYER) all c.loop-entry.invariant
