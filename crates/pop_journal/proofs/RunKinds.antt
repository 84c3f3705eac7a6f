-- What holds for the rounds and runs of both kinds.
use Rattle.std.proofs.Common.{◌≡◌, ℕ, ◌+◌, ◌<◌, ◌≤◌, List, [], ◌∷◌, ◌++◌, length, All, refl, sym, subst, arith}
use Rattle.std.specs.Prelude.{Some, slice_get}
use Rattle.std.proofs.lemmas.List.Elements.{All-head, All-nil, All-cons}
use Rattle.pop_leaf.specs.NetModel.{NetModel, CrowdModel}
use Rattle.pop_crowd.specs.declared.crowd.Meeting.{Meeting}
use Rattle.pop_crowd.specs.Replay.{IsMeeting, AreMeetings}
use Rattle.run_spec.specs.declared.spec.RunSpec.{RunSpec}
use Rattle.run_spec.specs.declared.kind.RunKind.{RunKind}
use Rattle.run_spec.specs.declared.kind.RunKind.TheVariants.{Whole, Watched}
use Rattle.run_spec.specs.Kinds.{most_workers_of}
use Rattle.run_picks.specs.Picks.{words_from, first_state}
use Rattle.run_picks.specs.Run.{IsRunUntil, joined, meetings_of}
use Rattle.run_picks.specs.WatchedRun.{IsWatchedRound, IsWatchedRunUntil, IsRunOf, IsRunOfUntil}
use Rattle.run_picks.proofs.Meets.{picked_meet}
use Rattle.run_picks.proofs.Rounds.{joined_all}
use Rattle.run_picks.proofs.SpentTurns.{over_by_rounds}
use Rattle.run_picks.proofs.WholeWatched.{watched_round, whole_is_watched}
use Rattle.pop_journal.specs.Expected.{stream_after, next_meeting}
use Rattle.pop_journal.specs.Rounds.{AreRounds, AreWatchedRounds, AreRoundsOf}
use Rattle.pop_journal.proofs.Due.{AreDue, picked_due}

pub few_workers : (kind : RunKind) (n : ℕ) → n ≤ most_workers_of kind → n ≤ 64
few_workers Whole n l = omega (arith, l)
few_workers Watched n l = omega (arith, l)

module _ (spec : RunSpec) where
  -- nobody but the workers makes meetings in rounds
  pub all_below : (rounds : List (List Meeting)) → ((k : ℕ) (r : List Meeting) → slice_get rounds k ≡ Some r → IsWatchedRound spec (k + 1) r) → All (λ (m : Meeting). m.worker < spec.workers) (joined rounds)
  all_below rounds each = joined_all (λ (m : Meeting). m.worker < spec.workers) rounds (λ k r h. (each k r h).nobody_else)

  module _ (agents : ℕ) (rounds : List (List Meeting)) where
    watched_rounds : AreRounds spec agents rounds → AreWatchedRounds spec agents rounds
    watched_rounds form =
        record {
          each = λ k r h. watched_round spec (k + 1) r (form.whole k r h);
          whole = λ k r l h. form.whole k r h;
          meetings = form.meetings;
        }

    -- whole rounds are of both kinds
    pub of_whole : (kind : RunKind) → AreRounds spec agents rounds → AreRoundsOf kind spec agents rounds
    of_whole Whole form = form
    of_whole Watched form = watched_rounds form

    -- the last round may lack meetings in both kinds
    pub are_watched : (kind : RunKind) → AreRoundsOf kind spec agents rounds → AreWatchedRounds spec agents rounds
    are_watched Whole form = watched_rounds form
    are_watched Watched form = form

-- up to a crowd that is terminal in rest
module _ (rest net : NetModel) (start : CrowdModel) (spec : RunSpec) (rounds : List (List Meeting)) (end : CrowdModel) where
  pub is_watched_until : (kind : RunKind) → IsRunOfUntil kind rest net start spec rounds end → IsWatchedRunUntil rest net start spec rounds end
  is_watched_until Whole run = whole_is_watched net start spec rounds end run
  is_watched_until Watched run = run

  -- a watched run of whole rounds is a run by whole rounds
  is_whole : (agents : ℕ) → AreRounds spec agents rounds → 1 ≤ spec.workers → IsWatchedRunUntil rest net start spec rounds end → IsRunUntil rest net start spec rounds end
  is_whole agents form some run =
      record {
        each_round = form.whole;
        picked = run.picked;
        marked = run.marked;
        replays = run.replays;
        goes_on = run.goes_on;
        over = over_by_rounds spec rounds run.each_round some run.over;
      }

  pub is_of_kind : (kind : RunKind) (agents : ℕ) → AreRoundsOf kind spec agents rounds → 1 ≤ spec.workers → IsWatchedRunUntil rest net start spec rounds end → IsRunOfUntil kind rest net start spec rounds end
  is_of_kind Whole agents form some run = is_whole agents form some run
  is_of_kind Watched agents form some run = run

  module _ (two : 2 ≤ length start) where
    abbrev InRange : Meeting → Type 0
    InRange m = IsMeeting (length start) m

    -- expected meetings are of two different agents
    due_meets : (before ms : List Meeting) → AreDue net start spec before ms → All InRange ms
    due_meets before [] h = All-nil InRange
    due_meets before (m ∷ ms) h =
        let next = next_meeting net start spec before m.worker in
        let meets = picked_meet (stream_after (words_from (first_state spec.seed m.worker)) (length (meetings_of m.worker before))) (length start) (next ∷ []) two refl in
        All-cons InRange m ms (subst InRange (sym h.0) (All-head InRange next [] meets)) (due_meets (before ++ m ∷ []) ms h.1)

    run_meets : IsWatchedRunUntil rest net start spec rounds end → AreMeetings (length start) (joined rounds)
    run_meets run = due_meets [] (joined rounds) (picked_due net start spec [] (joined rounds) run.picked (all_below spec rounds run.each_round) run.marked)

    -- the rounds of a run are well-formed
    pub run_form_until : (kind : RunKind) → IsRunOfUntil kind rest net start spec rounds end → AreRoundsOf kind spec (length start) rounds
    run_form_until Whole run = record { whole = run.each_round; meetings = run_meets (whole_is_watched net start spec rounds end run) }
    run_form_until Watched run = record { each = run.each_round; whole = run.whole; meetings = run_meets run }

-- up to a terminal crowd
module _ (net : NetModel) (start : CrowdModel) (spec : RunSpec) (rounds : List (List Meeting)) (end : CrowdModel) where
  pub run_form : 2 ≤ length start → (kind : RunKind) → IsRunOf kind net start spec rounds end → AreRoundsOf kind spec (length start) rounds
  run_form two kind run = run_form_until net net start spec rounds end two kind run
