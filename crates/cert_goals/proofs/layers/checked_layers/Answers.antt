use Rattle.std.proofs.Common.{subst}
use Rattle.pop_leaf.specs.LeafModel.{LeafModel}
use Rattle.cert_layers.specs.LayerFaults.{ChecksLayers}
use Rattle.cert_goals.proofs.Ways.{checks_some}
use Rattle.cert_goals.proofs.layers.checked_layers.Goals as goal

pub returns : goal.returns
returns c =
    let leaf = c.args.given.now.leaf.now in
    let layers = c.args.given.now.layers.now in
    checks_some leaf layers c.check_layers.result
    (subst (λ (l : LeafModel). ChecksLayers l layers c.check_layers.result) c.args.given.now.alone c.check_layers.ensures)
