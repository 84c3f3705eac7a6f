-- The form of a text that was read, and the reading of a run's text.
use Rattle.std.proofs.Common.{◌≡◌, ℕ, ◌+◌, ◌-◌, ◌*◌, ◌<◌, ◌≤◌, ◌^◌, min, List, [], ◌∷◌, ◌++◌, length, codes, Option, Some, None, Result, Ok, Err, All, refl, sym, ap, subst, ◌∙◌, arith, append_assoc, length-append, suc}
use Rattle.std.specs.Prelude.{slice_get, IfOk}
use Rattle.std.proofs.lemmas.List.Elements.{All-nil, All-cons, All-head, All-tail}
use Rattle.std.proofs.lemmas.Option.{slice_get-get_or}
use Rattle.pop_io.specs.declared.gate.TheConstants.{WORKER_LIMIT}
use Rattle.base_lines.specs.Lines.{lines_of, ended}
use Rattle.pop_leaf.specs.NetModel.{NetModel, CrowdModel}
use Rattle.pop_crowd.specs.declared.limits.TheConstants.{AGENT_LIMIT}
use Rattle.pop_crowd.specs.declared.crowd.Meeting.{Meeting}
use Rattle.pop_crowd.specs.Replay.{IsMeeting}
use Rattle.pop_crowd.specs.Tally.{crowd_lines}
use Rattle.run_spec.specs.declared.spec.TheConstants.{MEETING_LIMIT}
use Rattle.run_spec.specs.declared.spec.RunSpec.{RunSpec}
use Rattle.run_spec.specs.declared.kind.RunKind.{RunKind}
use Rattle.run_spec.specs.Kinds.{most_workers_of}
use Rattle.run_spec.specs.RunLimits.{IsWithinLimits}
use Rattle.run_picks.specs.Run.{joined}
use Rattle.run_picks.specs.WatchedRun.{IsWatchedRound, IsWatchedRunUntil, IsRunOf, IsRunOfUntil}
use Rattle.pop_journal.specs.declared.journal.Journal.{Journal}
use Rattle.run_text.specs.Journal.{run_line, round_lines, run_lines, last_line, text_of, journal_text}
use Rattle.pop_journal.specs.Rounds.{AreRounds, AreWatchedRounds, AreRoundsOf}
use Rattle.run_text.specs.Ending.{ending_of, ending_until}
use Rattle.run_text.specs.declared.last.Outcome.{Outcome}
use Rattle.run_text.specs.declared.last.Outcome.TheVariants.{Agreed}
use Rattle.pop_journal.specs.Expected.{whole_tail, whole_tail_until}
use Rattle.pop_journal.specs.Form.{spec_in, Reading, Parts, Out, lines_read, under, with_spec, journal_in}
use Rattle.pop_io.specs.declared.failure.Failure.{Failure}
use Rattle.run_text.specs.declared.fault.JournalFault.{JournalFault}
use Rattle.pop_journal.specs.ReadLines.{ReadsJournal}
use Rattle.pop_journal.specs.Laws.{IsOneSpelling, IsOneSpellingUntil, IsRunReadBackUntil, IsWrittenHeld, IsWrittenHeldUntil}
use Rattle.pop_journal.proofs.Spelled.{IsSmall}
use Rattle.pop_journal.proofs.Counts.{round_bound}
use Rattle.pop_journal.proofs.RunKinds.{all_below, are_watched, is_watched_until, run_form_until}
use Rattle.pop_journal.proofs.FormLaws.{read_spelled}
use Rattle.pop_journal.proofs.ReadBack.{rounds_read}
use Rattle.pop_journal.proofs.RunLine.{spec_spelled, spec_back}
use Rattle.pop_journal.proofs.Feeds.{lines_text, lines_unbroken}
use Rattle.pop_journal.proofs.OneSpelling.{one_spelling}

no_rounds : (spec : RunSpec) (agents : ℕ) → AreRounds spec agents []
no_rounds spec agents = record { whole = λ k r g. absurd cc; meetings = All-nil (IsMeeting agents) }

under_ok : (s : RunSpec) (r : Result Parts Out) (spec : RunSpec) (parts : Parts) → under s r ≡ Ok (spec, parts) → (s ≡ spec) × (r ≡ Ok parts)
under_ok s (Ok p) spec parts e =
    let same : ◌≡◌ {A = RunSpec × Parts} (s, p) (spec, parts) = cc in (ap (λ (t : RunSpec × Parts). t.0) same, ap (λ (t : RunSpec × Parts). Ok t.1) same)
under_ok s (Err out) spec parts e = absurd cc

long_rounds : (spec : RunSpec) (k : ℕ) (rounds : List (List Meeting)) → spec.workers ≤ WORKER_LIMIT → ((i : ℕ) (r : List Meeting) → slice_get rounds i ≡ Some r → IsWatchedRound spec (k + i + 1) r)
    → length (joined rounds) ≤ 262144 * length rounds
long_rounds spec k [] hands each = omega arith
long_rounds spec k (r ∷ rounds) hands each =
    let first = round_bound spec (k + 0 + 1) r (each 0 r refl) in
    let more = long_rounds spec (k + 1) rounds hands (λ i s h. subst (λ (n : ℕ). IsWatchedRound spec n s) (let e : k + suc i + 1 ≡ k + 1 + i + 1 = omega arith in e) (each (suc i) s h)) in
    omega (arith, first, more, hands, length-append r (joined rounds))

-- the lines of a journal
abbrev lines_told : RunKind → RunSpec → Parts → List (List ℕ)
lines_told kind spec parts = run_line kind spec ∷ (round_lines 1 parts.0 ++ codes "end" ∷ parts.1)

-- a text that is read has the lines of its journal, whose rounds are well-formed
pub journal_form : (kind : RunKind) (agents first : ℕ) (lines : List (List ℕ)) (spec : RunSpec) (parts : Parts) → agents < 2 ^ 32 → journal_in kind agents first lines ≡ Ok (spec, parts)
    → (lines ≡ run_line kind spec ∷ (round_lines 1 parts.0 ++ codes "end" ∷ parts.1)) × IsWithinLimits spec × AreRoundsOf kind spec agents parts.0 × (spec.workers ≤ most_workers_of kind) × (spec.workers * spec.turns ≤ MEETING_LIMIT)
journal_form kind agents first [] spec parts few e = absurd cc
journal_form kind agents first (line ∷ lines) spec parts few e = by_spec (spec_in kind line) refl e
  where
    by_spec : (o : Option RunSpec) → spec_in kind line ≡ o → with_spec kind agents first lines o ≡ Ok (spec, parts) → (line ∷ lines ≡ lines_told kind spec parts) × IsWithinLimits spec × AreRoundsOf kind spec agents parts.0 × (spec.workers ≤ most_workers_of kind) × (spec.workers * spec.turns ≤ MEETING_LIMIT)
    by_spec None is h = absurd cc
    by_spec (Some s) is h =
        let none : Reading = ([], None) in
        let found = under_ok s (lines_read kind s agents (first + 1) none lines) spec parts h in
        let spelled = spec_spelled kind line s is in
        let limits : IsWithinLimits s = spelled.1 in
        let read = read_spelled kind s agents limits.workers.1 few (first + 1) none lines parts (no_rounds s agents, tt) found.1 in
        subst (λ (r : RunSpec). (line ∷ lines ≡ lines_told kind r parts) × IsWithinLimits r × AreRoundsOf kind r agents parts.0 × (r.workers ≤ most_workers_of kind) × (r.workers * r.turns ≤ MEETING_LIMIT)) found.0
        ((λ i. spelled.0 i ∷ read.0 i), limits, read.1, spelled.2, spelled.3)

pub form_of : (kind : RunKind) (agents first : ℕ) (lines : List (List ℕ)) (r : Result Journal (Failure JournalFault)) → agents < 2 ^ 32 → ReadsJournal kind agents first lines r → IfOk r (λ journal. AreRoundsOf kind journal.spec agents journal.rounds)
form_of kind agents first lines (Ok journal) few e = (journal_form kind agents first lines journal.spec (journal.rounds, journal.tail) few e).2
form_of kind agents first lines (Err fault) few e = tt

pub spelling_of : (kind : RunKind) (agents first : ℕ) (lines : List (List ℕ)) (r : Result Journal (Failure JournalFault)) → agents < 2 ^ 32 → ReadsJournal kind agents first lines r
    → IfOk r (λ journal. lines ≡ run_line kind journal.spec ∷ (round_lines 1 journal.rounds ++ codes "end" ∷ journal.tail))
spelling_of kind agents first lines (Ok journal) few e = (journal_form kind agents first lines journal.spec (journal.rounds, journal.tail) few e).0
spelling_of kind agents first lines (Err fault) few e = tt

pub text_is_held_until : IsOneSpellingUntil
text_is_held_until rest outcome net start agents first body journal few read holds =
    let form = journal_form journal.kind agents first (lines_of (body ++ 10 ∷ [])) journal.spec (journal.rounds, journal.tail) few read in
    let run : IsWatchedRunUntil rest net start journal.spec journal.rounds holds.0 = is_watched_until rest net start journal.spec journal.rounds holds.0 journal.kind holds.1 in
    one_spelling rest outcome journal.kind net journal.spec journal.rounds holds.0 body journal.tail form.0 holds.2
    ∙ ap (λ (end : CrowdModel). journal_text journal.kind net journal.spec journal.rounds end (ending_until rest outcome net end)) (sym run.replays)

pub text_is_held : IsOneSpelling
text_is_held net = text_is_held_until net Agreed net

-- in the other direction: meetings within the limits have small numbers
small_all : (agents workers : ℕ) (ms : List Meeting) → agents ≤ AGENT_LIMIT → workers ≤ WORKER_LIMIT → All (IsMeeting agents) ms → All (λ (m : Meeting). m.worker < workers) ms → All IsSmall ms
small_all agents workers [] few hands range below = All-nil IsSmall
small_all agents workers (m ∷ ms) few hands range below =
    let meets = All-head (IsMeeting agents) m ms range in
    let lower : m.worker < workers = All-head (λ (o : Meeting). o.worker < workers) m ms below in
    All-cons IsSmall m ms
    (record { worker = omega (arith, lower, hands); a = (let l : m.a < agents = meets.first in omega (arith, l, few)); b = (let l : m.b < agents = meets.second in omega (arith, l, few)) })
    (small_all agents workers ms few hands (All-tail (IsMeeting agents) m ms range) (All-tail (λ (o : Meeting). o.worker < workers) m ms below))

few_rounds : (rounds : List (List Meeting)) (bound : ℕ) → ((k : ℕ) (r : List Meeting) → slice_get rounds k ≡ Some r → k < bound) → length rounds ≤ bound
few_rounds [] bound each = omega arith
few_rounds (r ∷ rest) bound each =
    let last : length rest < bound = each (length rest) _ (slice_get-get_or (r ∷ rest) (length rest) r (omega arith)) in omega (arith, last)

early : (spec : RunSpec) (k : ℕ) (r : List Meeting) → spec.turns ≤ 1000000 → IsWatchedRound spec (k + 1) r → k < 245
early spec k r few round =
    let some : 1 ≤ min 4096 (spec.turns - 4096 * (k + 1 - 1)) = round.some_turn in omega (arith, some, few)

-- the number of meetings of well-formed rounds
pub few_meetings : (kind : RunKind) (spec : RunSpec) (agents : ℕ) (rounds : List (List Meeting)) → IsWithinLimits spec → AreRoundsOf kind spec agents rounds → length (joined rounds) < 2 ^ 64
few_meetings kind spec agents rounds limits form =
    let watched = are_watched spec agents rounds kind form in
    let bound = few_rounds rounds 245 (λ k r h. early spec k r limits.turns (watched.each k r h)) in
    let long = long_rounds spec 0 rounds limits.workers.1 (λ i r h. subst (λ (n : ℕ). IsWatchedRound spec n r) (let e : i + 1 ≡ 0 + i + 1 = omega arith in e) (watched.each i r h)) in
    omega (arith, bound, long)

module _ (rest : NetModel) (outcome : Outcome) (kind : RunKind) (net : NetModel) (start : CrowdModel) (spec : RunSpec) (rounds : List (List Meeting)) (end : CrowdModel) (two : 2 ≤ length start) (few : length start ≤ AGENT_LIMIT) (limits : IsWithinLimits spec) (run : IsRunOfUntil kind rest net start spec rounds end) where
  abbrev tail : List (List ℕ)
  tail = lines_of (whole_tail_until rest outcome net end)

  form : AreRoundsOf kind spec (length start) rounds
  form = run_form_until rest net start spec rounds end two kind run

  watched : AreWatchedRounds spec (length start) rounds
  watched = are_watched spec (length start) rounds kind form

  all_small : All IsSmall (joined rounds)
  all_small = small_all (length start) spec.workers (joined rounds) few limits.workers.1 watched.meetings (all_below spec rounds watched.each)

  not_many : length rounds ≤ 2 ^ 62
  not_many =
      let bound = few_rounds rounds 245 (λ k r h. early spec k r limits.turns (watched.each k r h)) in omega (arith, bound)

  pub cut_until : lines_of (journal_text kind net spec rounds end (ending_until rest outcome net end)) ≡ run_line kind spec ∷ (round_lines 1 rounds ++ codes "end" ∷ tail)
  cut_until =
      ap lines_of (append_assoc (text_of (run_lines kind spec rounds)) (crowd_lines net end) (ended (last_line (ending_until rest outcome net end))))
      ∙ lines_text (run_lines kind spec rounds) (whole_tail_until rest outcome net end) (lines_unbroken kind spec rounds limits not_many all_small)
      ∙ append_assoc (run_line kind spec ∷ round_lines 1 rounds) (codes "end" ∷ []) tail

  read_back : (first : ℕ) → spec.workers ≤ most_workers_of kind → spec.workers * spec.turns ≤ MEETING_LIMIT → IsRunReadBackUntil rest outcome kind net start spec rounds end first
  read_back first hands spent =
      ap (journal_in kind (length start) first) cut_until
      ∙ ap (with_spec kind (length start) first (round_lines 1 rounds ++ codes "end" ∷ tail)) (spec_back kind spec limits hands spent)
      ∙ ap (under spec) (rounds_read spec (length start) limits.workers.0 limits.workers.1 (omega (arith, few)) kind (first + 1) [] rounds tail form)

pub written_is_held_until : IsWrittenHeldUntil
written_is_held_until rest outcome kind net start spec rounds end first two few limits hands spent run =
    (read_back rest outcome kind net start spec rounds end two few limits run first hands spent, (end, run, refl))

pub written_is_held : IsWrittenHeld
written_is_held kind net = written_is_held_until net Agreed kind net

-- the lines of the text of a run up to a terminal crowd
pub cut : (kind : RunKind) (net : NetModel) (start : CrowdModel) (spec : RunSpec) (rounds : List (List Meeting)) (end : CrowdModel) → 2 ≤ length start → length start ≤ AGENT_LIMIT → IsWithinLimits spec → IsRunOf kind net start spec rounds end
    → lines_of (journal_text kind net spec rounds end (ending_of net end)) ≡ run_line kind spec ∷ (round_lines 1 rounds ++ codes "end" ∷ lines_of (whole_tail net end))
cut kind net start spec rounds end two few limits run = cut_until net Agreed kind net start spec rounds end two few limits run
