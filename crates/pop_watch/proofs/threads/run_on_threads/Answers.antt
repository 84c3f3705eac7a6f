use Rattle.std.proofs.Common.{◌≡◌, min, [], ◌∷◌, ◌++◌, inl, sym, subst, ◌∙◌, arith, refl, length-append}
use Rattle.std.specs.Prelude.{true, ◌↔◌}
use Rattle.pop_leaf.specs.NetModel.{NetModel}
use Rattle.pop_net.specs.Lanes.{crowd_of, AreValid}
use Rattle.run_picks.specs.Ends.{RunGoesOn, IsEndOf}
use Rattle.run_picks.proofs.ManyRounds.{all_no_rounds}
use Rattle.run_picks.proofs.RunEnds.{goes_at}
use Rattle.run_picks.proofs.SameLanes.{valid_same}
use Rattle.run_picks.proofs.Taken.{takes_more}
use Rattle.pop_watch.specs.RunsOfKind.{IsRoundOf}
use Rattle.pop_watch.proofs.RunsOfKind.{begun_of, round_more_of, sizes_of, run_ended_of}
use Rattle.pop_watch.proofs.threads.run_on_threads.Goals as goal

pub rounds-init : goal.rounds-init
rounds-init g c =
    let rest = c.args.run.now.rest.now in
    let net = c.args.run.now.net.now in
    let start = crowd_of net c.args.crowd in
    let spec = c.args.run.now.spec.now in
    let first = c.in_ok-pickers.ensures in
    let pickers = c.in_ok-pickers.pickers.items in
    record {
      made = record {
        rounds = [];
        run = begun_of c.args.kind rest net start spec pickers (all_no_rounds rest net start spec pickers first.first);
        taken = refl;
        next = refl;
      };
      valid = c.requires.valid;
      agents = refl;
      pickers = first.long;
      few = c.args.run.now.limits.turns;
      count = omega (arith, c.args.run.now.limits.turns);
      serves = inl c.new-layout.ensures;
    }

pub rounds-preserved : goal.rounds-preserved
rounds-preserved g c =
    let rest = c.args.run.now.rest.now in
    let net = c.args.run.now.net.now in
    let spec = c.args.run.now.spec.now in
    let start = crowd_of net c.args.crowd in
    let was = c.rounds.invariant in
    let made = was.made in
    let old = c.rounds.pickers.items in
    let played = c.in_ok-played.played in
    let is = subst (λ (n : NetModel). IsRoundOf c.args.kind n net c.rounds.crowd spec.workers c.min-turns.result old played) c.in_ok-table.ensures c.in_ok-played.ensures.round in
    let meetings = played.meetings.items in
    let least : c.min-turns.result ≡ min 4096 c.rounds.left = c.min-turns.ensures in
    let goes = subst (λ (n : NetModel). (c.in_ok-goes_on.field-0 ≡ true) ↔ RunGoesOn n (crowd_of n c.rounds.crowd) c.rounds.left) c.in_ok-table.ensures c.in_ok-goes_on.ensures in
    let more = (goes_at rest net c.rounds.crowd c.rounds.left c.in_ok-goes_on.field-0 c.args.run.now.lanes goes).0 c.if-branch.true in
    let sizes = sizes_of c.args.kind rest net c.rounds.crowd spec.workers c.min-turns.result old played was.pickers is in
    record {
      made = record {
        rounds = made.rounds ++ meetings ∷ [];
        run = round_more_of rest net start spec made.rounds c.rounds.crowd old c.rounds.left c.min-turns.result least played c.args.kind made.run more.0 more.1 is;
        taken = takes_more g.S.RoundSink.takes _ _ _ 1 c.rounds.number made.rounds meetings made.next made.taken c.in_ok-take.ensures;
        next = omega (arith, made.next, length-append made.rounds (meetings ∷ []));
      };
      valid = sizes.valid;
      agents = sizes.agents ∙ was.agents;
      pickers = sizes.pickers;
      few = omega (arith, was.few);
      count = omega (arith, was.count, least, more.0);
      serves = c.in_ok-played.ensures.serves;
    }

pub returns : goal.returns
returns g c =
    let rest = c.args.run.now.rest.now in
    let net = c.args.run.now.net.now in
    let spec = c.args.run.now.spec.now in
    let was = c.rounds.invariant in
    let made = was.made in
    let goes = subst (λ (n : NetModel). (c.in_ok-goes_on.field-0 ≡ true) ↔ RunGoesOn n (crowd_of n c.rounds.crowd) c.rounds.left) c.in_ok-table.ensures c.in_ok-goes_on.ensures in
    let ended = subst (λ (n : NetModel). IsEndOf n (crowd_of n c.rounds.crowd) c.in_ok-end.end) c.in_ok-table.ensures c.in_ok-end.ensures in
    let run = run_ended_of rest net c.args.crowd c.rounds.crowd spec made.rounds c.rounds.pickers.items c.rounds.left c.in_ok-goes_on.field-0 c.in_ok-end.end c.args.kind made.run was.valid was.agents c.if-branch.false c.args.run.now.lanes goes ended in
    record {
      rounds = made.rounds;
      run = run;
      taken = made.taken;
    }

pub goes_on-requires : goal.goes_on-requires
goes_on-requires g c =
    subst (λ (n : NetModel). AreValid n c.rounds.crowd) (sym c.in_ok-table.ensures)
    (valid_same c.args.run.now.net.now c.args.run.now.rest.now (sym c.args.run.now.lanes) c.rounds.crowd c.rounds.invariant.valid)

pub end_of-requires : goal.end_of-requires
end_of-requires g c =
    subst (λ (n : NetModel). AreValid n c.rounds.crowd) (sym c.in_ok-table.ensures)
    (valid_same c.args.run.now.net.now c.args.run.now.rest.now (sym c.args.run.now.lanes) c.rounds.crowd c.rounds.invariant.valid)

pub round_of-requires-clause-round : goal.round_of-requires-clause-round
round_of-requires-clause-round g c κs within =
    record {
      valid = c.rounds.invariant.valid;
      pickers = c.rounds.invariant.pickers;
      few = omega (arith, c.min-turns.ensures);
    }

pub round_of-requires-clause-serves : goal.round_of-requires-clause-serves
round_of-requires-clause-serves g c κs within = c.rounds.invariant.serves
