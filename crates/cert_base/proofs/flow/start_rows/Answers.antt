use Rattle.std.proofs.Common.{◌∙◌, ◌++◌, ◌∷◌, [], map, ap, sym, zero-add}
use Rattle.std.specs.List.{range_with_len}
use Rattle.std.proofs.lemmas.List.FromFn.{map-range_with_len_more}
use Rattle.cert_base.specs.Parts.{flow_terms}
use Rattle.cert_base.proofs.flow.start_rows.Goals as goal

pub loop-q-preserved : goal.loop-q-preserved
loop-q-preserved c =
    c.in_ok-push.ensures.items
    ∙ ap (λ rows. rows ++ c.in_ok-start_row.field-0 ∷ []) c.loop-q.invariant
    ∙ ap (λ row. map (flow_terms c.args.leaf.now 0) (range_with_len 0 c.loop-q.q) ++ row ∷ []) c.in_ok-start_row.ensures
    ∙ sym (map-range_with_len_more (flow_terms c.args.leaf.now 0) 0 c.loop-q.q c.loop-q.q (zero-add c.loop-q.q))
