use Rattle.std.proofs.Common.{◌≡◌, ◌++◌, ◌∷◌, [], ◌∙◌, ◌+◌, ◌-◌, append_assoc, ap, sym, arith}
use Rattle.std.specs.List.{range_with_len}
use Rattle.std.specs.Prelude.{map}
use Rattle.std.proofs.lemmas.List.FromFn.{map-range_with_len_more}
use Rattle.cert_base.specs.declared.node.Node.TheVariants.{Present}
use Rattle.comp_flock.proofs.trees.push_present.Goals as goal

pub loop-p-preserved : goal.loop-p-preserved
loop-p-preserved c =
    let old = c.args.nodes.now.items in
    let a = c.args.top + 1 in
    let p = c.loop-p.p in
    let before : a + (p - a) ≡ p = omega arith in
    let after : p - a + 1 ≡ p + 1 - a = omega arith in
    c.in_ok-push.ensures.items
    ∙ ap (λ xs. xs ++ Present p ∷ []) c.loop-p.invariant
    ∙ append_assoc old (map Present (range_with_len a (p - a))) (Present p ∷ [])
    ∙ ap (λ xs. old ++ xs) (sym (map-range_with_len_more Present a (p - a) p before))
    ∙ ap (λ n. old ++ map Present (range_with_len a n)) after
