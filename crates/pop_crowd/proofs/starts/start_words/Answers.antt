use Rattle.std.proofs.Common.{get_or, arith}
use Rattle.pop_crowd.proofs.Inputs.{start_more, valid_more, all_started}
use Rattle.pop_crowd.proofs.starts.start_words.Goals as goal

pub loop-variable-preserved : goal.loop-variable-preserved
loop-variable-preserved c =
    record {
      start = start_more c.args.net.now c.args.counts.now c.loop-variable.variable c.loop-variable.words.items _ c.start.result (omega arith) c.in_ok-push_words.ensures c.start.ensures.start c.loop-variable.invariant.start;
      valid = valid_more c.args.net.now (get_or c.args.counts.now c.loop-variable.variable 0) c.loop-variable.words.items _ c.start.result c.in_ok-push_words.ensures c.start.ensures.valid c.loop-variable.invariant.valid;
    }

pub returns-clause-start : goal.returns-clause-start
returns-clause-start c = all_started c.args.net.now c.args.counts.now c.loop-variable.variable c.loop-variable.words.items (omega arith) c.loop-variable.invariant.start
