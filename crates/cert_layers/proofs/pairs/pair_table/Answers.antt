use Rattle.std.proofs.Common.{◌≡◌, ℕ, length, subst, arith}
use Rattle.cert_layers.specs.Waking.{IsWakingTable}
use Rattle.cert_layers.proofs.PairEntries.{table-empty}
use Rattle.cert_layers.proofs.pairs.pair_table.Goals as goal

pub loop-t-init : goal.loop-t-init
loop-t-init c = rw c.in_ok-layers.ensures (table-empty c.args.leaf.now c.args.layer_of_move.now)

pub returns : goal.returns
returns c =
    let all : c.loop-t.t ≡ length c.args.leaf.now.moves = omega arith in
    rw c.from_vec.ensures (subst (λ (n : ℕ). IsWakingTable c.args.leaf.now c.args.layer_of_move.now n c.loop-t.layers.items) all c.loop-t.invariant)
