use Rattle.pop_net.specs.Lanes.{crowd_of}
use Rattle.run_text.proofs.Texts.{journal_written}
use Rattle.std.proofs.lemmas.Result.{on_ok_weaker}
use Rattle.pop_journal.proofs.record.push_journal.Goals as goal

pub returns : goal.returns
returns c =
    let end = c.args.told.now.end.now in
    on_ok_weaker c.push_end.result
    (λ last. journal_written c.args.told.now.kind c.args.told.now.net.now c.args.told.now.spec.now end.rounds (crowd_of c.args.told.now.net.now end.crowd) c.args.told.now.last c.args.text.now.items _ _ _ _ c.in_ok-push_run_line.ensures c.in_ok-push_all_rounds.ensures
    c.in_ok-extend_from_slice.ensures.items last)
    c.push_end.ensures
