use Rattle.std.proofs.Common.{◌∙◌, map, ap, sym}
use Rattle.std.specs.List.{range_with_len}
use Rattle.pop_leaf.specs.declared.limits.TheConstants.{STATE_LIMIT}
use Rattle.cert_base.specs.FactsAndCases.{is_in}
use Rattle.cert_traps.proofs.set.StateSet.new.Goals as goal

pub invariant_of-result : goal.invariant_of-result
invariant_of-result c =
    c.in_ok-inside.ensures ∙ ap (λ set. map (is_in set) (range_with_len 0 STATE_LIMIT)) (c.as_slice.ensures ∙ sym c.in_ok-copy.ensures)
