use Rattle.std.proofs.Common.{◌≡◌, ◌+◌, List, [], ◌∷◌, ◌++◌, length, ap, sym, subst, ◌∙◌, arith, refl}
use Rattle.std.proofs.lemmas.List.{length-append}
use Rattle.pop_net.specs.Lanes.{crowd_of}
use Rattle.pop_crowd.specs.declared.crowd.Meeting.{Meeting}
use Rattle.run_picks.specs.Picks.{words_from}
use Rattle.run_picks.specs.Played.{IsPlayed}
use Rattle.run_picks.proofs.Played.{played_more, played_none, played_one}
use Rattle.run_picks.proofs.alone.play_round.Goals as goal

pub turns-preserved : goal.turns-preserved
turns-preserved g c =
    let net = c.args.run.now.net.now in
    let pushed : c.push_reserved.new.self.items ≡ c.turns.log.items ++ c.meet_next.result ∷ [] = c.push_reserved.ensures.items in
    record {
      played = subst (λ (log : List Meeting). IsPlayed net (crowd_of net c.args.crowd.now) (words_from c.args.picker.now) log (crowd_of net c.meet_next.new.crowd) (words_from c.meet_next.new.picker)) (sym pushed)
          (played_more net _ _ c.turns.log.items (c.meet_next.result ∷ []) _ _ _ _ c.turns.invariant.played
          (played_one net c.meet_next.result c.turns.crowd c.meet_next.new.crowd c.turns.picker c.meet_next.new.picker c.meet_next.ensures));
      turns = ap length pushed ∙ length-append c.turns.log.items (c.meet_next.result ∷ []) ∙ ap (λ n. n + 1) c.turns.invariant.turns;
      valid = c.meet_next.ensures.met.valid;
      agents = c.meet_next.ensures.met.agents ∙ c.turns.invariant.agents;
      room = let r = c.turns.invariant.room in let same = c.push_reserved.ensures.capacity in omega arith;
    }

pub turns-init : goal.turns-init
turns-init g c =
    let net = c.args.run.now.net.now in
    let start = crowd_of net c.args.crowd.now in
    let words = words_from c.args.picker.now in
    let log = c.in_ok-log.ensures in
    record {
      played = subst (λ (log : List Meeting). IsPlayed net start words log start words) (sym log.items) (played_none net start words);
      turns = ap length log.items;
      valid = c.requires.valid;
      agents = refl;
      room = omega (arith, log.exact);
    }
