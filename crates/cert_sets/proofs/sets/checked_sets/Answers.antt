use Rattle.std.proofs.Common.{List, ℕ, subst}
use Rattle.cert_base.specs.ValidLayers.{moves_of_layers}
use Rattle.cert_sets.specs.SetFaults.{ChecksSets}
use Rattle.cert_sets.proofs.GoodSets.{checks_sets}
use Rattle.cert_sets.proofs.sets.checked_sets.Goals as goal

pub returns : goal.returns
returns c =
    let leaf = c.args.given.now.leaf.now in
    let moves = moves_of_layers c.args.given.now.layers.now in
    let value = c.args.value in
    subst (λ (sets : List (List ℕ)). ChecksSets leaf moves value sets c.each_checked.result) c.as_slice.ensures
    (checks_sets leaf moves value c.as_slice.result.now c.each_checked.result c.each_checked.ensures.good c.each_checked.ensures.fault)
