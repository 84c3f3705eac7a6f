-- A journal passes exactly when it holds.
use Rattle.std.proofs.Common.{◌≡◌, ◌≤◌, ◌+◌, ℕ, length, subst, sym, ap, refl, ◌∙◌, arith, List, All}
use Rattle.std.specs.Prelude.{Some, None, Result, Ok, Err, IfOk, IfErr}
use Rattle.std.proofs.lemmas.List.{length-map}
use Rattle.pop_net.specs.declared.net.Word.{Word}
use Rattle.pop_io.specs.declared.gate.TheConstants.{WORKER_LIMIT}
use Rattle.pop_leaf.specs.NetModel.{NetModel, CrowdModel, IsTuple}
use Rattle.pop_net.specs.Lanes.{crowd_of, tuple_of}
use Rattle.base_lines.specs.Lines.{lines_of}
use Rattle.pop_crowd.specs.declared.limits.TheConstants.{AGENT_LEAST, AGENT_LIMIT}
use Rattle.pop_crowd.specs.Replay.{replay}
use Rattle.pop_crowd.proofs.Words.{crowd_tuples}
use Rattle.run_spec.specs.RunLimits.{IsWithinLimits}
use Rattle.run_picks.specs.Run.{joined}
use Rattle.run_picks.specs.WatchedRun.{IsWatchedRunUntil}
use Rattle.run_picks.specs.SameLanes.{HaveSameLanes}
use Rattle.pop_io.specs.declared.failure.Failure.{Failure}
use Rattle.pop_io.specs.declared.failure.Failure.TheVariants.{Fault, NoMemory}
use Rattle.run_text.specs.declared.fault.VerifyFault.{VerifyFault}
use Rattle.run_text.specs.declared.fault.VerifyFault.TheVariants.{Differs}
use Rattle.pop_journal.specs.declared.journal.Journal.{Journal}
use Rattle.pop_journal.specs.Rounds.{AreRoundsOf}
use Rattle.run_text.specs.declared.last.Outcome.{Outcome}
use Rattle.run_text.specs.Difference.{Difference}
use Rattle.pop_journal.specs.Expected.{first_difference, journal_compared_until, whole_tail_until, HoldsUntil}
use Rattle.pop_journal.specs.Standing.{Passes}
use Rattle.pop_journal.proofs.Holds.{run_of_none, none_of_run}
use Rattle.pop_journal.proofs.RunKinds.{are_watched, is_watched_until, is_of_kind}

module _ (rest : NetModel) (outcome : Outcome) (net : NetModel) (lanes : HaveSameLanes rest net) (start : CrowdModel) (journal : Journal) (two : AGENT_LEAST ≤ length start) (few : length start ≤ AGENT_LIMIT) (workers : (1 ≤ journal.spec.workers) × (journal.spec.workers ≤ WORKER_LIMIT)) (tuples : All (IsTuple net) start) (form : AreRoundsOf journal.kind journal.spec (length start) journal.rounds) where
  -- a well-formed journal without a difference holds
  pub none_held_until : first_difference (journal.first + 1) (journal_compared_until rest outcome net start journal) ≡ None → HoldsUntil rest outcome net start journal
  none_held_until e =
      let watched = are_watched journal.spec (length start) journal.rounds journal.kind form in
      let end : CrowdModel = replay net (joined journal.rounds) start in
      let both = run_of_none rest net start journal.spec two few workers.1 lanes tuples journal.rounds watched outcome (journal.first + 1) journal.tail e in
      (end, is_of_kind rest net start journal.spec journal.rounds end journal.kind (length start) form workers.0 both.0, both.1)

  pub held_none_until : HoldsUntil rest outcome net start journal → first_difference (journal.first + 1) (journal_compared_until rest outcome net start journal) ≡ None
  held_none_until holds =
      let watched = are_watched journal.spec (length start) journal.rounds journal.kind form in
      let run : IsWatchedRunUntil rest net start journal.spec journal.rounds holds.0 = is_watched_until rest net start journal.spec journal.rounds holds.0 journal.kind holds.1 in
      none_of_run rest net start journal.spec two few workers.1 lanes tuples journal.rounds watched outcome (journal.first + 1) journal.tail holds.0 workers.0 run
      (holds.2 ∙ ap (λ (c : CrowdModel). lines_of (whole_tail_until rest outcome net c)) (sym run.replays))

module _ (rest : NetModel) (outcome : Outcome) (net : NetModel) (lanes : HaveSameLanes rest net) (words : List Word) (journal : Journal) (r : Result ℕ (Failure VerifyFault)) (limits : IsWithinLimits journal.spec) (form : AreRoundsOf journal.kind journal.spec (length words) journal.rounds) (two : AGENT_LEAST ≤ length words) (few : length words ≤ AGENT_LIMIT) where
  abbrev start : CrowdModel
  start = crowd_of net words

  same : length start ≡ length words
  same = length-map words (tuple_of net)

  rounds_form : AreRoundsOf journal.kind journal.spec (length start) journal.rounds
  rounds_form = subst (λ (n : ℕ). AreRoundsOf journal.kind journal.spec n journal.rounds) (sym same) form

  more : AGENT_LEAST ≤ length start
  more = omega (arith, same, two)

  fewer : length start ≤ AGENT_LIMIT
  fewer = omega (arith, same, few)

  pub holds_where : Passes (journal.first + 1) (journal_compared_until rest outcome net start journal) r → IfOk r (λ _. HoldsUntil rest outcome net start journal)
  holds_where h = by_result r h
    where
      by_result : (s : Result ℕ (Failure VerifyFault)) → Passes (journal.first + 1) (journal_compared_until rest outcome net start journal) s → IfOk s (λ _. HoldsUntil rest outcome net start journal)
      by_result (Ok n) e =
          none_held_until rest outcome net lanes start journal more fewer limits.workers (crowd_tuples net words) rounds_form e
      by_result (Err (Fault (Differs line kept found))) e = tt
      by_result (Err NoMemory) e = tt

  pub fails_where : Passes (journal.first + 1) (journal_compared_until rest outcome net start journal) r → HoldsUntil rest outcome net start journal → IfErr r (λ fault. fault ≡ NoMemory)
  fails_where h holds = by_result r h
    where
      none : first_difference (journal.first + 1) (journal_compared_until rest outcome net start journal) ≡ None
      none =
          held_none_until rest outcome net lanes start journal more fewer limits.workers (crowd_tuples net words) rounds_form holds

      by_result : (s : Result ℕ (Failure VerifyFault)) → Passes (journal.first + 1) (journal_compared_until rest outcome net start journal) s → IfErr s (λ fault. fault ≡ NoMemory)
      by_result (Ok n) e = tt
      by_result (Err (Fault (Differs line kept found))) e = let both : None ≡ Some (let d : Difference = record { line = line; kept = kept; found = found } in d) = sym none ∙ e in absurd cc
      by_result (Err NoMemory) e = refl
