use Rattle.std.proofs.Common.{ℕ, List, [], ◌∷◌, ◌++◌, Option, None, ap, sym, ◌∙◌, arith}
use Rattle.std.proofs.lemmas.List.{map_more}
use Rattle.pop_words.proofs.counts.none_of.Goals as goal

pub loop-name-preserved : goal.loop-name-preserved
loop-name-preserved c =
    c.in_ok-push.ensures.items
    ∙ ap (λ (l : List (Option ℕ)). l ++ None ∷ []) c.loop-name.invariant
    ∙ sym (map_more (λ (_ : List ℕ). None) c.args.names.now c.loop-name._name-index [] (omega arith))
