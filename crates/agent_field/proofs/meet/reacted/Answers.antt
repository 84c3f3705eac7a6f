use Rattle.std.proofs.Common.{◌∙◌}
use Rattle.pop_crowd.proofs.Words.{anew_reacts}
use Rattle.agent_field.proofs.meet.reacted.Goals as goal

pub returns-clause-changed : goal.returns-clause-changed
returns-clause-changed c =
    c.differ.ensures
    ∙ anew_reacts c.args.net.now c.args.x c.args.y _ _ c.react.ensures.reaction c.requires.0 c.requires.1 c.react.ensures.first_valid c.react.ensures.second_valid
