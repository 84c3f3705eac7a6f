use Rattle.std.proofs.Common.{◌<◌, length, arith, ◌∙◌, rules}
use Rattle.std.proofs.lemmas.List.{get_or_default}
use Rattle.pop_net.specs.Lanes.{crowd_of}
use Rattle.run_picks.proofs.ManyRounds.{alone_played}
use Rattle.pair_workers.proofs.round.plain_round.Goals as goal

pub returns : goal.returns
returns g c =
    let net = c.args.run.now.net.now in
    let pickers = c.args.start.pickers.items in
    let now = c.index_mut.result.now in
    let some : 0 < length pickers = omega (arith, c.requires.pickers) in
    let plays = c.in_ok-meetings.ensures.1 in
    record {
      played = alone_played net (crowd_of net c.args.start.crowd) c.args.start.turns pickers now c.play_round.new.picker c.in_ok-meetings.meetings.items (crowd_of net c.play_round.new.crowd)
          plays.played c.in_ok-meetings.ensures.0 c.requires.pickers (λ d. c.index_mut.ensures.value ∙ get_or_default pickers 0 now d some);
      valid = plays.valid;
      agents = plays.agents;
      pickers = search rules;
    }
