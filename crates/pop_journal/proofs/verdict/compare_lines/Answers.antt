use Rattle.std.proofs.Common.{◌≡◌, ◌++◌, ◌+◌, ◌<◌, ◌∷◌, ℕ, List, Option, length, get_or, take, drop, sym, ap, subst, ◌∙◌, arith, length-append}
use Rattle.std.specs.Prelude.{IfSome}
use Rattle.std.proofs.lemmas.Result.{err_from_is_err_and}
use Rattle.base_lines.specs.Lines.{lines_of}
use Rattle.pop_net.specs.Lanes.{crowd_of}
use Rattle.pop_crowd.specs.declared.crowd.Meeting.{Meeting}
use Rattle.pop_crowd.specs.Replay.{replay}
use Rattle.terminal_test.specs.TableNet.{table_net}
use Rattle.run_picks.specs.Run.{joined}
use Rattle.pop_journal.specs.Expected.{Compared, first_difference, lacking, rounds_compared, tail_compared, whole_tail_until, journal_compared_until}
use Rattle.pop_journal.specs.Standing.{IsReplaying, lacking_behind}
use Rattle.pop_journal.proofs.AlongTheJournal.{round_compared, round_passed, round_differs, carried}
use Rattle.pop_journal.proofs.RoundAt.{round_is, range_at, below_at, joined_is, drop_is, lacking_next, long_at, early}
use Rattle.pop_journal.proofs.Lacks.{behind_below}
use Rattle.pop_journal.proofs.AtEnd.{end_passes, end_differs}
use Rattle.pop_journal.proofs.verdict.compare_lines.Goals as goal

pub compare_round-requires-clause-meetings : goal.compare_round-requires-clause-meetings
compare_round-requires-clause-meetings c =
    let journal = c.args.context.now.journal.now in
    let r : List Meeting = c.as_slice-meetings.result.now in
    let is : r ≡ get_or journal.rounds c.loop-k.k r = cc in
    let less : c.loop-k.k < length journal.rounds = subst (λ (rs : List (List Meeting)). c.loop-k.k < length rs) c.as_slice-meetings-items.ensures c.loop-k-test.true in
    range_at journal.spec (length c.args.replayer.now.crowd) journal.rounds c.requires.rounds c.loop-k.k less r is (length c.loop-k.replayer.crowd) c.loop-k.invariant.agents

pub compare_round-requires-clause-workers : goal.compare_round-requires-clause-workers
compare_round-requires-clause-workers c =
    let journal = c.args.context.now.journal.now in
    let r : List Meeting = c.as_slice-meetings.result.now in
    let is : r ≡ get_or journal.rounds c.loop-k.k r = cc in
    let less : c.loop-k.k < length journal.rounds = subst (λ (rs : List (List Meeting)). c.loop-k.k < length rs) c.as_slice-meetings-items.ensures c.loop-k-test.true in
    below_at journal.spec (length c.args.replayer.now.crowd) journal.rounds c.requires.rounds c.loop-k.k less r is (length c.loop-k.replayer.pickers.items) c.loop-k.invariant.workers

pub returns-in_err-compare_round-clause-passes : goal.returns-in_err-compare_round-clause-passes
returns-in_err-compare_round-clause-passes c =
    let journal = c.args.context.now.journal.now in
    let less : c.loop-k.k < length journal.rounds = subst (λ (rs : List (List Meeting)). c.loop-k.k < length rs) c.as_slice-meetings-items.ensures c.loop-k-test.true in
    let rest = table_net c.args.context.now.table.now in
    let outcome = c.args.context.now.outcome in
    let net = c.args.context.now.net.now in
    let start = crowd_of net c.args.replayer.now.crowd in
    let rounds = journal.rounds in
    let k = c.loop-k.k in
    let r : List Meeting = c.as_slice-meetings.result.now in
    let is : r ≡ get_or rounds k r = cc in
    let round = round_is journal.spec (length c.args.replayer.now.crowd) rounds c.requires.rounds k less r is in
    let before = joined (take k rounds) in
    let others = drop (k + 1) rounds in
    let worker : Option ℕ = lacking_behind journal.spec rounds k in
    let t : List Compared = tail_compared journal.tail (lines_of (whole_tail_until rest outcome net (replay net (joined rounds) start))) in
    let p = err_from_is_err_and c.from_residual.result c.from_residual.ensures.1 in
    let found = c.in_err-compare_round.ensures.passes start journal.spec before c.loop-k.invariant.stands round.some_turn in
    let far = c.loop-k.invariant.passed ∙ ap (λ (rs : List (List Meeting)). first_difference c.loop-k.line (rounds_compared rest net start journal.spec before (k + 1) worker rs ++ t)) (drop_is journal.spec (length c.args.replayer.now.crowd) rounds c.requires.rounds k less r is) in
    rw (p.1, p.2)
    (carried (Unit {0}) ℕ (journal.first + 1) c.loop-k.line (journal_compared_until rest outcome net start journal) (round_compared rest net start journal.spec before (k + 1) r) (rounds_compared rest net start journal.spec before (k + 1) worker (r ∷ others) ++ t) c.in_err-compare_round.field-0.0
    (round_differs rest net start journal.spec before (k + 1) c.loop-k.line worker r others t) far found.0)

pub loop-k-preserved : goal.loop-k-preserved
loop-k-preserved c =
    let journal = c.args.context.now.journal.now in
    let less : c.loop-k.k < length journal.rounds = subst (λ (rs : List (List Meeting)). c.loop-k.k < length rs) c.as_slice-meetings-items.ensures c.loop-k-test.true in
    let rest = table_net c.args.context.now.table.now in
    let outcome = c.args.context.now.outcome in
    let net = c.args.context.now.net.now in
    let start = crowd_of net c.args.replayer.now.crowd in
    let rounds = journal.rounds in
    let was = c.loop-k.invariant in
    let k = c.loop-k.k in
    let r : List Meeting = c.as_slice-meetings.result.now in
    let is : r ≡ get_or rounds k r = cc in
    let round = round_is journal.spec (length c.args.replayer.now.crowd) rounds c.requires.rounds k less r is in
    let more = joined_is journal.spec (length c.args.replayer.now.crowd) rounds c.requires.rounds k less r is in
    let long = long_at journal.spec (length c.args.replayer.now.crowd) rounds c.requires.rounds k less r is c.requires.spec.workers.1 in
    let before = joined (take k rounds) in
    let others = drop (k + 1) rounds in
    let worker : Option ℕ = lacking_behind journal.spec rounds k in
    let t : List Compared = tail_compared journal.tail (lines_of (whole_tail_until rest outcome net (replay net (joined rounds) start))) in
    let lacks : lacking journal.spec (k + 1) r ≡ lacking_behind journal.spec rounds (k + 1) = lacking_next journal.spec (length c.args.replayer.now.crowd) rounds c.requires.rounds k less r is in
    let told = c.in_ok-compare_round.ensures.passes start journal.spec before was.stands round.some_turn in
    record {
      valid = c.compare_round.ensures.shape.valid;
      agents = c.compare_round.ensures.shape.agents ∙ was.agents;
      workers = c.compare_round.ensures.shape.workers ∙ was.workers;
      lines = omega (arith, was.lines, long);
      total = ap (λ (n : ℕ). n + length r) was.total ∙ sym (length-append before r) ∙ ap (length {A = Meeting}) (sym more);
      few = omega (arith, was.few, long);
      rounds = early journal.spec (length c.args.replayer.now.crowd) rounds c.requires.rounds k less r is c.requires.spec.turns;
      stands = subst (λ (l : List Meeting). IsReplaying net start journal.spec l c.compare_round.new.self) (sym more) told.1;
      passed = was.passed
          ∙ ap (λ (rs : List (List Meeting)). first_difference c.loop-k.line (rounds_compared rest net start journal.spec before (k + 1) worker rs ++ t)) (drop_is journal.spec (length c.args.replayer.now.crowd) rounds c.requires.rounds k less r is)
          ∙ round_passed rest net start journal.spec before (k + 1) c.loop-k.line worker r others t told.0
          ∙ ap (λ (p : List Meeting × Option ℕ). first_difference (c.loop-k.line + (1 + length r)) (rounds_compared rest net start journal.spec p.0 (k + 1 + 1) p.1 others ++ t)) (λ i. (sym more i, lacks i));
    }

pub compare_end-requires-clause-worker : goal.compare_end-requires-clause-worker
compare_end-requires-clause-worker c =
    let shown : List (List Meeting) = c.as_slice-rounds.result.now in
    subst (λ (p : Option ℕ × ℕ). IfSome p.0 (λ worker. worker < p.1)) (λ i. (sym c.in_ok-lacking.ensures i, sym c.loop-k.invariant.workers i)) (behind_below c.args.context.now.journal.now.spec shown (length shown))

pub returns-clause-passes : goal.returns-clause-passes
returns-clause-passes c =
    let journal = c.args.context.now.journal.now in
    let was = c.loop-k.invariant in
    let rest = table_net c.args.context.now.table.now in
    let outcome = c.args.context.now.outcome in
    let start = crowd_of c.args.context.now.net.now c.args.replayer.now.crowd in
    end_passes rest outcome c.args.context.now.net.now start journal.spec journal.rounds journal.tail c.loop-k.k c.as_slice-rounds.result.now c.in_ok-lacking.lacking c.as_slice-tail.result.now
    c.as_slice-rounds.ensures c.in_ok-lacking.ensures c.as_slice-tail.ensures _ c.as_slice-meetings-items.ensures (omega (arith, c.loop-k-test.false, c.loop-k.auto.k-end))
    (journal.first + 1) c.loop-k.line (journal_compared_until rest outcome c.args.context.now.net.now start journal) was.passed (c.in_ok-compare_end.ensures start (joined (take c.loop-k.k journal.rounds)) was.stands)

pub returns-in_err-compare_end-clause-passes : goal.returns-in_err-compare_end-clause-passes
returns-in_err-compare_end-clause-passes c =
    let journal = c.args.context.now.journal.now in
    let rest = table_net c.args.context.now.table.now in
    let outcome = c.args.context.now.outcome in
    let start = crowd_of c.args.context.now.net.now c.args.replayer.now.crowd in
    let p = err_from_is_err_and c.from_residual-in_err-compare_end.result c.from_residual-in_err-compare_end.ensures.1 in
    rw (p.1, p.2)
    (end_differs rest outcome c.args.context.now.net.now start journal.spec journal.rounds journal.tail c.loop-k.k c.as_slice-rounds.result.now c.in_ok-lacking.lacking c.as_slice-tail.result.now
    c.as_slice-rounds.ensures c.in_ok-lacking.ensures c.as_slice-tail.ensures _ c.as_slice-meetings-items.ensures (omega (arith, c.loop-k-test.false, c.loop-k.auto.k-end))
    (journal.first + 1) c.loop-k.line (journal_compared_until rest outcome c.args.context.now.net.now start journal) c.loop-k.invariant.passed (Unit {0}) ℕ c.in_err-compare_end.field-0.0
    (c.in_err-compare_end.ensures start (joined (take c.loop-k.k journal.rounds)) c.loop-k.invariant.stands))
