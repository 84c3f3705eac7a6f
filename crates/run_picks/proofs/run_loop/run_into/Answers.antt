use Rattle.std.specs.Prelude.{true, ◌↔◌}
use Rattle.std.proofs.Common.{◌≡◌, ℕ, ◌-◌, min, [], ◌∷◌, ◌++◌, sym, ap, subst, ◌∙◌, arith, refl, length-append}
use Rattle.pop_leaf.specs.NetModel.{NetModel}
use Rattle.pop_net.specs.Lanes.{crowd_of, AreValid}
use Rattle.run_picks.specs.Ends.{RunGoesOn, IsEndOf}
use Rattle.run_picks.specs.Turns.{ArePlayed}
use Rattle.run_picks.proofs.ManyRounds.{AreOnTheRun, alone_played, all_more_rounds, all_no_rounds, first_alone}
use Rattle.run_picks.proofs.OnlyRun.{only_run}
use Rattle.run_picks.proofs.RunEnds.{goes_at, run_ended}
use Rattle.run_picks.proofs.SameLanes.{valid_same}
use Rattle.run_picks.proofs.Taken.{takes_more}
use Rattle.run_picks.proofs.run_loop.run_into.Goals as goal

pub rounds-preserved : goal.rounds-preserved
rounds-preserved g c =
    let rest = c.args.run.now.rest.now in
    let net = c.args.run.now.net.now in
    let spec = c.args.run.now.spec.now in
    let start = crowd_of net c.args.crowd in
    let making = c.rounds.invariant.making in
    let before = c.rounds.picker in
    let after = c.play_round.new.picker in
    let meetings = c.in_ok-meetings.meetings.items in
    let plays = c.in_ok-meetings.ensures.1 in
    let least : c.min-turns.result ≡ min 4096 c.rounds.left = c.min-turns.ensures in
    let goes = subst (λ (n : NetModel). (c.in_ok-goes_on.field-0 ≡ true) ↔ RunGoesOn n (crowd_of n c.rounds.crowd) c.rounds.left) c.in_ok-table.ensures c.in_ok-goes_on.ensures in
    let more = (goes_at rest net c.rounds.crowd c.rounds.left c.in_ok-goes_on.field-0 c.args.run.now.lanes goes).0 c.if-branch.true in
    let alone = alone_played net (crowd_of net c.rounds.crowd) (min 4096 c.rounds.left) (before ∷ []) before after meetings (crowd_of net c.play_round.new.crowd)
    plays.played (c.in_ok-meetings.ensures.0 ∙ least) refl (λ d. refl) in
    let played : ArePlayed net (crowd_of net c.rounds.crowd) spec.workers (min 4096 c.rounds.left) (before ∷ []) (after ∷ []) meetings (crowd_of net c.play_round.new.crowd) =
    subst (λ (n : ℕ). ArePlayed net (crowd_of net c.rounds.crowd) n (min 4096 c.rounds.left) (before ∷ []) (after ∷ []) meetings (crowd_of net c.play_round.new.crowd)) (sym c.requires.alone) alone in
    let left : c.rounds.left - min 4096 c.rounds.left ≡ c.rounds.left - c.min-turns.result = ap (λ n. c.rounds.left - n) (sym least) in
    record {
      making = record {
        rounds = making.rounds ++ meetings ∷ [];
        run = subst (λ (n : ℕ). AreOnTheRun rest net start spec (making.rounds ++ meetings ∷ []) (crowd_of net c.play_round.new.crowd) (after ∷ []) n) left
            (all_more_rounds net start spec making.rounds _ (before ∷ []) c.rounds.left making.run _ (after ∷ []) meetings played more.0 more.1);
        taken = takes_more g.S.RoundSink.takes _ _ _ 1 c.rounds.number making.rounds meetings making.next making.taken c.in_ok-take.ensures;
        next = omega (arith, making.next, length-append making.rounds (meetings ∷ []));
      };
      valid = plays.valid;
      agents = plays.agents ∙ c.rounds.invariant.agents;
      few = omega (arith, c.rounds.invariant.few);
      count = omega (arith, c.rounds.invariant.count, least, more.0);
    }

pub returns : goal.returns
returns g c =
    let rest = c.args.run.now.rest.now in
    let net = c.args.run.now.net.now in
    let was = c.rounds.invariant in
    let making = was.making in
    let goes = subst (λ (n : NetModel). (c.in_ok-goes_on.field-0 ≡ true) ↔ RunGoesOn n (crowd_of n c.rounds.crowd) c.rounds.left) c.in_ok-table.ensures c.in_ok-goes_on.ensures in
    let ended = subst (λ (n : NetModel). IsEndOf n (crowd_of n c.rounds.crowd) c.in_ok-end.end) c.in_ok-table.ensures c.in_ok-end.ensures in
    let run = run_ended rest net c.args.crowd c.rounds.crowd c.args.run.now.spec.now making.rounds making.rounds (c.rounds.picker ∷ []) c.rounds.left c.in_ok-goes_on.field-0 c.in_ok-end.end making.run was.valid was.agents c.if-branch.false c.args.run.now.lanes goes ended refl in
    record {
      rounds = making.rounds;
      run = record { run = run; only = only_run net _ c.args.run.now.spec.now _ _ c.requires.alone run.run };
      taken = making.taken;
    }

pub rounds-init : goal.rounds-init
rounds-init g c =
    let rest = c.args.run.now.rest.now in
    let net = c.args.run.now.net.now in
    let start = crowd_of net c.args.crowd in
    let spec = c.args.run.now.spec.now in
    let picker = c.new-picker.result in
    record {
      making = record {
        rounds = [];
        run = all_no_rounds rest net start spec (picker ∷ []) (first_alone spec picker c.requires.alone c.new-picker.ensures.state);
        taken = refl;
        next = refl;
      };
      valid = c.requires.valid;
      agents = refl;
      few = c.args.run.now.limits.turns;
      count = omega (arith, c.args.run.now.limits.turns);
    }

pub goes_on-requires : goal.goes_on-requires
goes_on-requires g c =
    subst (λ (n : NetModel). AreValid n c.rounds.crowd) (sym c.in_ok-table.ensures)
    (valid_same c.args.run.now.net.now c.args.run.now.rest.now (sym c.args.run.now.lanes) c.rounds.crowd c.rounds.invariant.valid)

pub end_of-requires : goal.end_of-requires
end_of-requires g c =
    subst (λ (n : NetModel). AreValid n c.rounds.crowd) (sym c.in_ok-table.ensures)
    (valid_same c.args.run.now.net.now c.args.run.now.rest.now (sym c.args.run.now.lanes) c.rounds.crowd c.rounds.invariant.valid)
