use Rattle.std.proofs.Common.{◌∙◌, ◌++◌, ◌∷◌, [], ap, sym}
use Rattle.comp_counting.proofs.weights.numbers.Goals as goal
use Rattle.base_laws.proofs.Ranges.{range_one_more}

pub loop-number-preserved : goal.loop-number-preserved
loop-number-preserved c =
    c.in_ok-push.ensures.items ∙ ap (λ ns. ns ++ c.loop-number.number ∷ []) c.loop-number.invariant ∙ sym (range_one_more c.loop-number.number)
