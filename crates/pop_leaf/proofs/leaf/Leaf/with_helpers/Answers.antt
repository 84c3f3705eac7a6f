use Rattle.std.proofs.Common.{rules, sym, ◌∙◌}
use Rattle.pop_leaf.specs.LeafModel.{IsLeaf}
use Rattle.pop_leaf.proofs.LeafFaults.{unbroken_leaf, right_leaf}
use Rattle.pop_leaf.proofs.leaf.Leaf.with_helpers.Goals as goal

pub of_valid-requires : goal.of_valid-requires
of_valid-requires c =
    let right : IsLeaf (record { states = c.as_slice.result.now; moves = c.as_slice-2.result.now; inputs = c.as_slice-3.result.now; outputs = c.as_slice-4.result.now; helpers = c.as_slice-5.result.now }) = unbroken_leaf _ (sym c.leaf_fault.ensures ∙ c.in-None.is) in
    rw (c.as_slice.ensures, c.as_slice-2.ensures, c.as_slice-3.ensures, c.as_slice-4.ensures, c.as_slice-5.ensures) at right

pub returns-in-Some : goal.returns-in-Some
returns-in-Some c =
    let refused : IsLeaf (record { states = c.as_slice.result.now; moves = c.as_slice-2.result.now; inputs = c.as_slice-3.result.now; outputs = c.as_slice-4.result.now; helpers = c.as_slice-5.result.now }) → ⊥ = right_leaf _ _ (sym c.leaf_fault.ensures ∙ c.in-Some.is) in
    record {
      kept = tt;
      refused = search rules;
      accepts = λ right. absurd ((rw (c.as_slice.ensures, c.as_slice-2.ensures, c.as_slice-3.ensures, c.as_slice-4.ensures, c.as_slice-5.ensures) at refused) right);
    }
