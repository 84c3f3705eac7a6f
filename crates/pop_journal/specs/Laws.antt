-- Laws of journals: a text that is read and holds has one spelling, and the text written for a run is read and holds.
-- The first net says where a run ends.
use Rattle.std.specs.Prelude.{◌≡◌, ℕ, ◌*◌, ◌<◌, ◌≤◌, ◌^◌, List, [], ◌∷◌, ◌++◌, length, Ok}
use Rattle.base_lines.specs.Lines.{lines_of}
use Rattle.pop_leaf.specs.NetModel.{NetModel, CrowdModel}
use Rattle.pop_crowd.specs.declared.limits.TheConstants.{AGENT_LEAST, AGENT_LIMIT}
use Rattle.pop_crowd.specs.declared.crowd.Meeting.{Meeting}
use Rattle.pop_crowd.specs.Replay.{replay}
use Rattle.run_spec.specs.declared.spec.TheConstants.{MEETING_LIMIT}
use Rattle.run_spec.specs.declared.kind.RunKind.{RunKind}
use Rattle.run_spec.specs.declared.spec.RunSpec.{RunSpec}
use Rattle.run_spec.specs.Kinds.{most_workers_of}
use Rattle.run_spec.specs.RunLimits.{IsWithinLimits}
use Rattle.run_picks.specs.Run.{joined}
use Rattle.run_picks.specs.WatchedRun.{IsRunOfUntil}
use Rattle.pop_journal.specs.declared.journal.Journal.{Journal}
use Rattle.run_text.specs.Journal.{journal_text}
use Rattle.run_text.specs.declared.last.Outcome.{Outcome}
use Rattle.run_text.specs.declared.last.Outcome.TheVariants.{Agreed}
use Rattle.run_text.specs.Ending.{ending_until}
use Rattle.pop_journal.specs.Expected.{whole_tail_until, HoldsUntil}
use Rattle.pop_journal.specs.Form.{journal_in}
use Rattle.pop_journal.specs.ReadLines.{ReadsJournal}

-- the text written for a run with this end
abbrev pub text_ended_until : NetModel → Outcome → RunKind → NetModel → RunSpec → List (List Meeting) → CrowdModel
    → List ℕ
text_ended_until rest outcome kind net spec rounds end =
    journal_text kind net spec rounds end (ending_until rest outcome net end)

-- the text written for a journal's run
abbrev pub text_held_until : NetModel → Outcome → NetModel → CrowdModel → Journal → List ℕ
text_held_until rest outcome net start journal =
    text_ended_until rest outcome journal.kind net journal.spec journal.rounds
    (replay net (joined journal.rounds) start)

-- A journal that holds and was read from a text with a line feed at its end has no other text.
abbrev pub HasOneSpelling : NetModel → Outcome → NetModel → Type 0
HasOneSpelling rest outcome net =
    (start : CrowdModel) (agents first : ℕ) (body : List ℕ) (journal : Journal) → agents < 2 ^ 32
    → ReadsJournal journal.kind agents first (lines_of (body ++ 10 ∷ [])) (Ok journal)
    → HoldsUntil rest outcome net start journal
    → body ++ 10 ∷ [] ≡ text_held_until rest outcome net start journal

abbrev pub IsOneSpellingUntil : Type 0
IsOneSpellingUntil = (rest : NetModel) (outcome : Outcome) (net : NetModel) → HasOneSpelling rest outcome net

-- the same for runs up to a terminal crowd
abbrev pub IsOneSpelling : Type 0
IsOneSpelling = (net : NetModel) → HasOneSpelling net Agreed net

-- the text written for a run is read back
abbrev pub IsRunReadBackUntil : NetModel → Outcome → RunKind → NetModel → CrowdModel → RunSpec → List (List Meeting)
    → CrowdModel → ℕ → Type 0
IsRunReadBackUntil rest outcome kind net start spec rounds end first =
    journal_in kind (length start) first (lines_of (text_ended_until rest outcome kind net spec rounds end))
    ≡ Ok (spec, (rounds, lines_of (whole_tail_until rest outcome net end)))

-- The text written for a run within the limits is read back to a journal that holds.
abbrev pub AreWrittenHeld : NetModel → Outcome → RunKind → NetModel → Type 0
AreWrittenHeld rest outcome kind net =
    (start : CrowdModel) (spec : RunSpec) (rounds : List (List Meeting)) (end : CrowdModel) (first : ℕ)
    → AGENT_LEAST ≤ length start → length start ≤ AGENT_LIMIT → IsWithinLimits spec
    → spec.workers ≤ most_workers_of kind → spec.workers * spec.turns ≤ MEETING_LIMIT
    → IsRunOfUntil kind rest net start spec rounds end
    → IsRunReadBackUntil rest outcome kind net start spec rounds end first
    × HoldsUntil rest outcome net start
    (record {
      kind = kind;
      spec = spec;
      rounds = rounds;
      tail = lines_of (whole_tail_until rest outcome net end);
      first = first;
    })

abbrev pub IsWrittenHeldUntil : Type 0
IsWrittenHeldUntil =
    (rest : NetModel) (outcome : Outcome) (kind : RunKind) (net : NetModel) → AreWrittenHeld rest outcome kind net

-- the same for runs up to a terminal crowd
abbrev pub IsWrittenHeld : Type 0
IsWrittenHeld = (kind : RunKind) (net : NetModel) → AreWrittenHeld net Agreed kind net
