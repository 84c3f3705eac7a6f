use Rattle.std.proofs.Common.{◌≡◌, ap, sym, ◌∙◌}
use Rattle.std.specs.Prelude.{Some, slice_get}
use Rattle.std.proofs.lemmas.Option.{slice_get-get_or}
use Rattle.pop_settle.proofs.Words.{word_set}
use Rattle.pop_settle.proofs.walk.Walk.change.Goals as goal

pub returns-clause-changed : goal.returns-clause-changed
returns-clause-changed c =
    let words = c.args.self.now.words.items in
    let word = c.index-word.result.now in
    let h : slice_get words c.args.agent ≡ Some word = slice_get-get_or words c.args.agent word c.requires.agent_in ∙ ap Some (sym c.index-word.ensures) in
    word_set c.args.net.now words c.args.agent word c.with_state.result c.args.leaf c.args.state h c.with_state.ensures.tuple
