use Rattle.std.proofs.Common.{◌<◌, ◌^◌, rules}
use Rattle.pop_journal.proofs.PairLine.{first_pair}
use Rattle.pop_journal.proofs.short.short_pair.Goals as goal

pub returns : goal.returns
returns c =
    let la : c.in_ok-first.first < 2 ^ 64 = search rules in
    let lb : c.in_ok-second.second < 2 ^ 64 = search rules in
    first_pair c.args.agents c.in_ok-first.first c.in_ok-second.second c.args.text.now _ _ _ _ c.in_ok-first.ensures c.in_ok-behind.ensures c.in_ok-second.ensures c.in_ok-rest.ensures la lb
    c.if-first-second.false c.if-agents-first.false c.if-agents-second.false
