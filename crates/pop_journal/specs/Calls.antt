-- Calls: what the calls on journals require and promise.
use Rattle.std.specs.Prelude.{◌≡◌, ℕ, ◌+◌, ◌≤◌, List, ◌∷◌, ◌++◌, length, codes, Result, IfOk}
use Rattle.pop_leaf.specs.NetModel.{NetModel}
use Rattle.pop_net.specs.declared.net.Word.{Word}
use Rattle.pop_net.specs.Lanes.{crowd_of, AreValid}
use Rattle.run_spec.specs.declared.kind.RunKind.{RunKind}
use Rattle.run_spec.specs.Kinds.{most_workers_of}
use Rattle.run_spec.specs.RunLimits.{IsWithinLimits}
use Rattle.run_picks.specs.Run.{joined}
use Rattle.run_text.specs.declared.fault.JournalFault.{JournalFault}
use Rattle.run_text.specs.declared.fault.VerifyFault.{VerifyFault}
use Rattle.pop_io.specs.declared.failure.Failure.{Failure}
use Rattle.pop_io.specs.Failures.{OnlyMemory}
use Rattle.pop_journal.specs.declared.journal.Journal.{Journal}
use Rattle.pop_journal.specs.declared.journal.TheConstants.{LINE_LIMIT}
use Rattle.run_text.specs.Journal.{run_line, round_lines}
use Rattle.pop_journal.specs.Rounds.{AreRoundsOf}
use Rattle.pop_journal.specs.ReadLines.{ReadsJournal}
use Rattle.run_text.specs.declared.last.Outcome.{Outcome}
use Rattle.run_text.specs.declared.last.Outcome.TheVariants.{Agreed}
use Rattle.pop_journal.specs.Expected.{journal_compared_until, HoldsUntil}
use Rattle.pop_journal.specs.Standing.{Passes}

-- What was read of these lines as the journal of a run of this kind for so many agents. The first line has this number.
pub record IsReadFrom (lines : List (List ℕ)) (run : RunKind) (number agents : ℕ)
    (result : Result Journal (Failure JournalFault)) : Type 0 where
  pub read : ReadsJournal run agents number lines result
  pub kind : IfOk result (λ journal. journal.kind ≡ run)
  pub first : IfOk result (λ journal. journal.first ≡ number)
  pub limits : IfOk result (λ journal. IsWithinLimits journal.spec × (journal.spec.workers ≤ most_workers_of run))
  -- the rounds are what `verify` requires
  pub rounds : IfOk result (λ journal. AreRoundsOf run journal.spec agents journal.rounds)
  -- the lines of the text are those of the journal
  pub spelled : IfOk result
      (λ journal. lines ≡ run_line run journal.spec ∷ (round_lines 1 journal.rounds ++ codes "end" ∷ journal.tail))

-- what `verify` requires of a journal, for a crowd of this net
pub record CanVerify (net : NetModel) (crowd : List Word) (journal : Journal) : Type 0 where
  pub valid : AreValid net crowd
  pub first : journal.first ≤ LINE_LIMIT
  pub spec : IsWithinLimits journal.spec
  pub rounds : AreRoundsOf journal.kind journal.spec (length crowd) journal.rounds

-- the journal was compared with the run that it records from this crowd, until it is terminal in rest
pub record IsVerifiedUntil (rest : NetModel) (outcome : Outcome) (net : NetModel) (crowd : List Word)
    (journal : Journal) (result : Result ℕ (Failure VerifyFault)) : Type 0 where
  -- the first line that isn't the expected one is the refusal
  pub passes : Passes (journal.first + 1) (journal_compared_until rest outcome net (crowd_of net crowd) journal) result
  pub meetings : IfOk result (λ k. k ≡ length (joined journal.rounds))
  -- it passes exactly when the rounds are a run of the journal's kind and the tail has the lines of its end
  pub holds : IfOk result (λ _. HoldsUntil rest outcome net (crowd_of net crowd) journal)
  pub accepts : HoldsUntil rest outcome net (crowd_of net crowd) journal → OnlyMemory result

-- the same for a run up to a terminal crowd
abbrev pub IsVerified : NetModel → List Word → Journal → Result ℕ (Failure VerifyFault) → Type 0
IsVerified net crowd journal result = IsVerifiedUntil net Agreed net crowd journal result
