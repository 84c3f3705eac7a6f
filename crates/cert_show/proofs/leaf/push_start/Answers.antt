use Rattle.std.proofs.Common.{ℕ, ◌++◌, sym, ap, ◌∙◌}
use Rattle.std.specs.Prelude.{slice_index_or}
use Rattle.std.proofs.lemmas.Option.{get_or_from_slice_get}
use Rattle.cert_show.specs.Lines.{quoted, name_at}
use Rattle.cert_show.proofs.Pieces.{where_good, named_piece}
use Rattle.cert_show.proofs.leaf.push_start.Goals as goal

pub returns : goal.returns
returns c =
    let states = c.args.leaf.now.states in
    let text = c.push_text.new.out.items in
    where_good c.push_name.result _ _
    (λ last. named_piece c.args.out.now.items c.push_word.new.out.items text c.push_name.new.out.items (quoted c.args.name.now) (name_at states (slice_index_or c.args.leaf.now.inputs c.args.variable 0)) c.in_ok-push_word.ensures c.in_ok-push_text.ensures
    (last ∙ ap (λ (q : ℕ). text ++ name_at states q) (sym (get_or_from_slice_get c.args.leaf.now.inputs c.args.variable c.input.result 0 c.input.ensures.start))))
    c.push_name.ensures
