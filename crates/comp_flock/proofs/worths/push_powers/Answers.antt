use Rattle.std.proofs.Common.{◌++◌, ◌∷◌, [], ◌∙◌, ◌^◌, append_assoc, zero-add, ap, sym}
use Rattle.std.specs.List.{range_with_len}
use Rattle.std.specs.Prelude.{map}
use Rattle.std.proofs.lemmas.List.FromFn.{map-range_with_len_more}
use Rattle.comp_flock.proofs.worths.push_powers.Goals as goal

pub loop-i-preserved : goal.loop-i-preserved
loop-i-preserved c =
    let old = c.args.worths.now.items in
    let i = c.loop-i.i in
    c.in_ok-push.ensures.items
    ∙ ap (λ xs. xs ++ c.two_to.result ∷ []) c.loop-i.invariant
    ∙ append_assoc old (map (λ i. 2 ^ i) (range_with_len 0 i)) (c.two_to.result ∷ [])
    ∙ ap (λ n. old ++ (map (λ i. 2 ^ i) (range_with_len 0 i) ++ n ∷ [])) c.two_to.ensures.value
    ∙ ap (λ xs. old ++ xs) (sym (map-range_with_len_more (λ i. 2 ^ i) 0 i i (zero-add i)))
