use Rattle.std.proofs.Common.{length}
use Rattle.run_text.specs.declared.last.Outcome.TheVariants.{Known}
use Rattle.pop_journal.proofs.RunKinds.{are_watched}
use Rattle.pop_journal.proofs.Verdicts.{holds_where, fails_where}
use Rattle.pop_journal.proofs.verdict.verify_settled.Goals as goal

pub compare-requires-clause-rounds : goal.compare-requires-clause-rounds
compare-requires-clause-rounds c =
    let journal = c.args.journal.now in are_watched journal.spec (length c.args.crowd) journal.rounds journal.kind c.requires.can.rounds

pub returns : goal.returns
returns c =
    let size = c.compare.ensures.agents in
    let can = c.requires.can in
    let known = Known c.args.value in
    record {
      passes = c.compare.ensures.passes;
      meetings = c.compare.ensures.meetings;
      holds = holds_where c.args.rest.now known c.args.net.now c.requires.lanes c.args.crowd c.args.journal.now c.compare.result can.spec can.rounds size.0 size.1 c.compare.ensures.passes;
      accepts = fails_where c.args.rest.now known c.args.net.now c.requires.lanes c.args.crowd c.args.journal.now c.compare.result can.spec can.rounds size.0 size.1 c.compare.ensures.passes;
    }
