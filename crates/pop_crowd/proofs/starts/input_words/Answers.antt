use Rattle.pop_crowd.proofs.Inputs.{joined, agents_started}
use Rattle.pop_crowd.proofs.starts.input_words.Goals as goal

pub returns-clause-start : goal.returns-clause-start
returns-clause-start c = joined c.args.net.now c.args.counts.now c.in_ok-words.words.items _ c.in_ok-words.ensures.start c.in_ok-push_helpers.ensures.helpers

pub returns-clause-agents : goal.returns-clause-agents
returns-clause-agents c = agents_started c.args.net.now c.args.counts.now _ (joined c.args.net.now c.args.counts.now c.in_ok-words.words.items _ c.in_ok-words.ensures.start c.in_ok-push_helpers.ensures.helpers)
