use Rattle.std.proofs.Common.{◌≡◌, ℕ, ◌-◌, min, List, [], ◌∷◌, ◌++◌, ap, sym, subst, ◌∙◌, arith, inl, refl, rules}
use Rattle.std.specs.Prelude.{true, ◌↔◌}
use Rattle.pop_leaf.specs.NetModel.{NetModel}
use Rattle.pop_net.specs.Lanes.{crowd_of, AreValid}
use Rattle.pop_crowd.specs.declared.crowd.Meeting.{Meeting}
use Rattle.run_picks.specs.Turns.{ArePlayed}
use Rattle.run_picks.specs.Ends.{RunGoesOn}
use Rattle.run_picks.proofs.OnlyRun.{only_run}
use Rattle.run_picks.proofs.ManyRounds.{AreOnTheRun, all_more_rounds, all_no_rounds}
use Rattle.run_picks.proofs.RunEnds.{run_ended_at_net}
use Rattle.pair_workers.proofs.all.run_all.Goals as goal

pub rounds-preserved : goal.rounds-preserved
rounds-preserved g c =
    let net = c.args.net.now in
    let spec = c.args.spec.now in
    let was = c.rounds.invariant in
    let start = crowd_of net c.args.crowd in
    let old = c.rounds.pickers.items in
    let after = c.in_ok-played.played in
    let is = c.in_ok-played.ensures.round in
    let round = after.meetings.items in
    let least : c.min-turns.result ≡ min 4096 c.rounds.left = c.min-turns.ensures in
    let pushed : c.push.new.self.items ≡ c.rounds.rounds.items ++ round ∷ [] = search rules in
    let more = (subst (λ (n : NetModel). (c.in_ok-goes_on.field-0 ≡ true) ↔ RunGoesOn n (crowd_of n c.rounds.crowd) c.rounds.left) c.in_ok-table.ensures c.in_ok-goes_on.ensures).0 c.if-branch.true in
    let played : ArePlayed net (crowd_of net c.rounds.crowd) spec.workers (min 4096 c.rounds.left) old after.pickers.items round (crowd_of net after.crowd) =
    subst (λ (n : ℕ). ArePlayed net (crowd_of net c.rounds.crowd) spec.workers n old after.pickers.items round (crowd_of net after.crowd)) least is.played in
    let left : c.rounds.left - min 4096 c.rounds.left ≡ c.rounds.left - c.min-turns.result = ap (λ n. c.rounds.left - n) (sym least) in
    let on = all_more_rounds net start spec c.rounds.rounds.items _ old c.rounds.left was.run (crowd_of net after.crowd) after.pickers.items round played more.0 more.1 in
    record {
      run = subst (λ (t : List (List Meeting) × ℕ). AreOnTheRun net net start spec t.0 (crowd_of net after.crowd) after.pickers.items t.1) (λ i. (sym pushed i, left i)) on;
      valid = is.valid;
      agents = is.agents ∙ was.agents;
      pickers = is.pickers ∙ was.pickers;
      few = omega (arith, was.few);
      serves = c.in_ok-played.ensures.serves;
    }

pub returns : goal.returns
returns g c =
    let net = c.args.net.now in
    let was = c.rounds.invariant in
    let run = run_ended_at_net _ net c.args.crowd c.rounds.crowd c.args.spec.now c.rounds.rounds.items _ c.rounds.pickers.items c.rounds.left c.in_ok-goes_on.field-0 c.in_ok-end.end was.run was.valid was.agents c.if-branch.false c.in_ok-table.ensures c.in_ok-goes_on.ensures c.in_ok-end.ensures c.from_vec-2.ensures in
    record {
      run = run;
      only = λ alone. only_run net _ c.args.spec.now _ _ alone run.run;
    }

pub rounds-init : goal.rounds-init
rounds-init g c =
    let net = c.args.net.now in
    let start = crowd_of net c.args.crowd in
    let spec = c.args.spec.now in
    let first = c.in_ok-pickers.ensures in
    record {
      run = subst (λ (rounds : List (List Meeting)). AreOnTheRun net net start spec rounds start c.in_ok-pickers.pickers.items spec.turns) (sym c.new-rounds.ensures.items)
          (all_no_rounds net net start spec c.in_ok-pickers.pickers.items first.first);
      valid = c.requires.valid;
      agents = refl;
      pickers = first.long;
      few = c.requires.limits.turns;
      serves = inl c.new-layout.ensures;
    }

pub goes_on-requires : goal.goes_on-requires
goes_on-requires g c = subst (λ (n : NetModel). AreValid n c.rounds.crowd) (sym c.in_ok-table.ensures) c.rounds.invariant.valid

pub next_round-requires-clause-round : goal.next_round-requires-clause-round
next_round-requires-clause-round g c κs within =
    record {
      valid = c.rounds.invariant.valid;
      pickers = c.rounds.invariant.pickers;
      few = omega (arith, c.min-turns.ensures);
    }

pub end_of-requires : goal.end_of-requires
end_of-requires g c = subst (λ (n : NetModel). AreValid n c.rounds.crowd) (sym c.in_ok-table.ensures) c.rounds.invariant.valid

pub next_round-requires-clause-serves : goal.next_round-requires-clause-serves
next_round-requires-clause-serves g c κs within = c.rounds.invariant.serves
