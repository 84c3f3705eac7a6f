use Rattle.pop_crowd.proofs.Inputs.{helper_more, valid_more}
use Rattle.std.proofs.Common.{rules}
use Rattle.pop_crowd.proofs.starts.push_helpers.Goals as goal

pub loop-helper-preserved : goal.loop-helper-preserved
loop-helper-preserved c =
    record {
      helpers = helper_more c.args.net.now c.loop-helper.helper c.args.words.now.items c.loop-helper.words.items _ c.helper.result c.in_ok-push.ensures.items c.helper.ensures.start c.loop-helper.invariant.helpers;
      valid = valid_more c.args.net.now 1 c.loop-helper.words.items _ c.helper.result c.in_ok-push.ensures.items c.helper.ensures.valid c.loop-helper.invariant.valid;
    }

pub returns-clause-helpers : goal.returns-clause-helpers
returns-clause-helpers c = search rules
