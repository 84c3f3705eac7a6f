use Rattle.std.proofs.Common.{rules, sym, ◌∙◌}
use Rattle.std.specs.Prelude.{All}
use Rattle.pop_leaf.specs.LeafModel.{IsLeaf}
use Rattle.pop_leaf.specs.NetModel.{IsNet}
use Rattle.pop_net.proofs.NetFaults.{unbroken_net, right_net}
use Rattle.pop_net.proofs.net.Net.new.Goals as goal

pub of_valid-requires : goal.of_valid-requires
of_valid-requires c =
    let leaves : All IsLeaf c.as_slice-2.result.now = rw c.in-None.is at c.net_fault.ensures.formed in
    let right : IsNet (record { variables = c.as_slice.result.now; leaves = c.as_slice-2.result.now; combine = c.as_slice-3.result.now }) = unbroken_net _ leaves (sym c.net_fault.ensures.first ∙ c.in-None.is) in
    rw (c.as_slice.ensures, c.as_slice-2.ensures, c.as_slice-3.ensures) at right

pub returns-in-Some : goal.returns-in-Some
returns-in-Some c =
    let refused : IsNet (record { variables = c.as_slice.result.now; leaves = c.as_slice-2.result.now; combine = c.as_slice-3.result.now }) → ⊥ = right_net _ _ (sym c.net_fault.ensures.first ∙ c.in-Some.is) in
    record {
      kept = tt;
      refused = search rules;
      accepts = λ right. absurd ((rw (c.as_slice.ensures, c.as_slice-2.ensures, c.as_slice-3.ensures) at refused) right);
    }
