use Rattle.std.proofs.Common.{◌≡◌, ◌<◌, ℕ, List, length, inl, inr, sym, ap, subst, ◌∙◌, arith}
use Rattle.std.specs.Prelude.{All}
use Rattle.pop_leaf.specs.NetModel.{CrowdModel}
use Rattle.pop_net.specs.declared.net.Word.{Word}
use Rattle.pop_leaf.specs.Step.{Step}
use Rattle.pop_leaf.specs.Terminal.{IsTerminal}
use Rattle.pop_net.specs.Lanes.{crowd_of}
use Rattle.terminal_test.specs.TableNet.{table_net}
use Rattle.run_picks.specs.Run.{made_by}
use Rattle.run_picks.proofs.SameLanes.{crowd_same, valid_same}
use Rattle.pop_watch.specs.Playing.{IsPlayedFrom}
use Rattle.pop_watch.proofs.round.watched_round.Goals as goal

pub returns-then-are_made : goal.returns-then-are_made
returns-then-are_made g c =
    let made = c.in_ok-played.ensures.made in
    let all = subst (λ (l : List ℕ). All (λ (n : ℕ). n ≡ c.args.start.turns) l) c.as_slice.ensures.value (c.are_made.ensures.0 c.if-are_made.true) in
    record {
      round = record {
        part = c.in_ok-played.ensures.part;
        ends = inl (λ w l. sym (made.1 w 0 l) ∙ all w 0 (omega (arith, l, made.0)));
      };
      serves = c.in_ok-played.ensures.serves;
    }

pub returns-then-branch : goal.returns-then-branch
returns-then-branch g c =
    let rest = table_net c.args.watch.now.table.now in
    record {
      round = record {
        part = c.in_ok-played.ensures.part;
        ends = inr (subst (λ (f : List Word → CrowdModel). IsTerminal (Step rest) (f c.in_ok-played.played.crowd)) (crowd_same rest c.args.watch.now.run.now.net.now c.args.watch.now.lanes) (c.in_ok-is_terminal.ensures.terminal.0 c.if-branch.true));
      };
      serves = c.in_ok-played.ensures.serves;
    }

pub is_terminal-requires : goal.is_terminal-requires
is_terminal-requires g c =
    let lanes = c.args.watch.now.lanes in
    valid_same c.args.watch.now.run.now.net.now (table_net c.args.watch.now.table.now) (sym lanes) c.in_ok-played.played.crowd c.in_ok-played.ensures.part.valid

pub returns : goal.returns
returns g c =
    let net = c.args.watch.now.run.now.net.now in
    let start = crowd_of net c.args.start.crowd in
    let pickers = c.args.start.pickers.items in
    let before = c.in_ok-played.played in
    let after = c.make_missing.new.played in
    let was = c.in_ok-played.ensures.part in
    let on = c.in_ok-make_missing.ensures in
    let long : length c.as_slice-2.result.now ≡ c.args.watch.now.run.now.spec.now.workers = ap (length {A = ℕ}) c.as_slice-2.ensures.value ∙ c.in_ok-played.ensures.made.0 in
    let all : (w : ℕ) → w < c.args.watch.now.run.now.spec.now.workers → made_by w after.meetings.items ≡ c.args.start.turns = (λ w l. on.all w (omega (arith, l, long))) in
    record {
      round = record {
        part = record {
          played = subst (λ (n : ℕ). IsPlayedFrom net start n pickers after) was.pickers (on.goes_on.more start pickers (subst (λ (n : ℕ). IsPlayedFrom net start n pickers before) (sym was.pickers) was.played));
          few = λ w l. omega (arith, all w l);
          valid = on.valid;
          agents = on.goes_on.agents ∙ was.agents;
          pickers = on.goes_on.pickers ∙ was.pickers;
        };
        ends = inl all;
      };
      serves = inl c.clear.ensures;
    }
