-- From the closed field to a part of a round.
use Rattle.std.proofs.Common.{◌≡◌, ℕ, ◌+◌, ◌<◌, ◌≤◌, true, List, [], map, length, get_or, sym, ap, subst, ◌∙◌, Some, None}
use Rattle.std.specs.Prelude.{All}
use Rattle.std.proofs.lemmas.List.{length-map, get_or-map}
use Rattle.pop_net.specs.declared.net.Word.{Word}
use Rattle.pop_leaf.specs.NetModel.{NetModel}
use Rattle.pop_net.specs.Lanes.{crowd_of, tuple_of}
use Rattle.pop_crowd.specs.declared.crowd.Meeting.{Meeting}
use Rattle.pop_crowd.specs.Replay.{replay}
use Rattle.agent_field.specs.declared.field.Field.{Field}
use Rattle.agent_field.specs.declared.field.FieldSeat.{FieldSeat}
use Rattle.agent_field.specs.declared.view.Logged.{Logged}
use Rattle.agent_field.specs.History.{IsHistory, calls}
use Rattle.agent_field.specs.Seats.{log_of, taken_of}
use Rattle.run_picks.specs.Turns.{HasPicked}
use Rattle.run_picks.specs.Run.{meetings_of, pairs, made_by}
use Rattle.pair_workers.specs.Work.{AreDone, HasAll, agents_of_field, pairs_of}
use Rattle.pair_workers.proofs.FieldRounds.{pairs_called}
use Rattle.pair_workers.specs.declared.work.Worker.{Worker}
use Rattle.pop_watch.specs.Playing.{ArePlaying, of_worker}
use Rattle.pop_watch.proofs.Renumbered.{IsOfWorker, pairs_of_worker, replay_of_workers, marked_of_workers, numbers_of_workers}

module _ (f : Field) (turns : ℕ) (pickers : List (List ℕ)) (done : List Worker) (first s : FieldSeat) (meetings : List Meeting) (others : AreDone f turns true pickers done) (all : HasAll f done first s)
    (taken : (w : ℕ) (l : List Logged) → get_or (taken_of s) w None ≡ Some l → calls w meetings ≡ l) (some : All IsOfWorker meetings) where
  pairs_made : (w : ℕ) (d : Worker) → w < length done → pairs_of (log_of (get_or done w d).seat) ≡ pairs (meetings_of w (map of_worker meetings))
  pairs_made w d h =
      sym
      (pairs_of_worker w meetings some ∙ pairs_called (w + 1) 0 meetings ∙ ap pairs_of (taken (w + 1) (log_of (get_or done w d).seat) (all.taken w d h)))

  -- how many meetings a worker has logged
  pub many_made : (w : ℕ) (d : Worker) → w < length done → length (log_of (get_or done w d).seat) ≡ made_by w (map of_worker meetings)
  many_made w d h =
      let log = log_of (get_or done w d).seat in
      let ms = meetings_of w (map of_worker meetings) in
      sym (length-map log (λ (e : Logged). (e.a, e.b)))
      ∙ ap length (pairs_made w d h)
      ∙ length-map ms (λ (m : Meeting). (m.a, m.b))

  pub few_made : (w : ℕ) → (d : Worker) → w < length done → made_by w (map of_worker meetings) ≤ turns
  few_made w d h = subst (λ (n : ℕ). n ≤ turns) (many_made w d h) (others.1 w d [] h).made.few

  pub made_each : (made : List ℕ) → made ≡ map (λ (v : Worker). length (log_of v.seat)) done → (w e : ℕ) (d : Worker) → w < length done → get_or made w e ≡ made_by w (map of_worker meetings)
  made_each made is w e d h =
      ap (λ (l : List ℕ). get_or l w e) is ∙ get_or-map (λ (v : Worker). length (log_of v.seat)) done w d e h ∙ many_made w d h

  -- each worker's meetings are its next picks
  pub all_picked : (after : List (List ℕ)) → after ≡ map (λ (v : Worker). v.picker) done → (w : ℕ) (d : List ℕ) (x : Worker) → w < length done
      → HasPicked (agents_of_field f) (made_by w (map of_worker meetings)) (get_or pickers w d) (get_or after w d) (pairs (meetings_of w (map of_worker meetings)))
  all_picked after is w d x h =
      let stands : (get_or done w x).picker ≡ get_or after w d = sym (ap (λ (l : List (List ℕ)). get_or l w d) is ∙ get_or-map (λ (v : Worker). v.picker) done w x d h) in
      subst (λ (t : ℕ × List ℕ × List (ℕ × ℕ)). HasPicked (agents_of_field f) t.0 (get_or pickers w d) t.1 t.2) (λ i. (many_made w x h i, stands i, pairs_made w x h i)) (others.1 w x d h).made.picked

pub are_playing : (net : NetModel) (opening words : List Word) (workers seats : ℕ) (before after : List (List ℕ)) (meetings : List Meeting) → crowd_of net words ≡ replay net meetings (crowd_of net opening)
    → IsHistory net seats opening meetings → seats ≡ workers + 1 → All IsOfWorker meetings
    → ((w : ℕ) (d : List ℕ) → w < workers → HasPicked (length opening) (made_by w (map of_worker meetings)) (get_or before w d) (get_or after w d) (pairs (meetings_of w (map of_worker meetings))))
    → ArePlaying net (crowd_of net opening) workers before after (map of_worker meetings) (crowd_of net words)
are_playing net opening words workers seats before after meetings replays history one some picked =
    record {
      marked = marked_of_workers net meetings (crowd_of net opening) history.marked;
      replays = replay_of_workers net meetings (crowd_of net opening) ∙ sym replays;
      picked = λ w d h. subst (λ (n : ℕ). HasPicked n (made_by w (map of_worker meetings)) (get_or before w d) (get_or after w d) (pairs (meetings_of w (map of_worker meetings)))) (sym (length-map opening (tuple_of net))) (picked w d h);
      nobody_else = numbers_of_workers workers seats meetings one some history.numbers;
    }
