use Rattle.std.proofs.Common.{◌∙◌}
use Rattle.pop_crowd.proofs.Words.{anew_reacts}
use Rattle.terminal_test.proofs.partner.is_enabled.Goals as goal

pub returns : goal.returns
returns c =
    c.differ.ensures ∙ anew_reacts c.args.net.now c.args.x c.args.y _ _ c.react.ensures.reaction c.requires.x_valid c.requires.y_valid c.react.ensures.first_valid c.react.ensures.second_valid
