use Rattle.std.proofs.Common.{ap, sym, ◌∙◌}
use Rattle.std.specs.Prelude.{Some}
use Rattle.pop_leaf.proofs.Copied.{one_copied}
use Rattle.pop_leaf.proofs.parts.states_of.Goals as goal

pub loop-q-preserved : goal.loop-q-preserved
loop-q-preserved c =
    one_copied c.args.leaf.now.states c.loop-q.q c.from_string.result c.loop-q.invariant
    (c.name.ensures ∙ ap Some (sym (c.from_string.ensures ∙ c.in_ok-from_str.ensures.ok))) c.in_ok-push.ensures.items
