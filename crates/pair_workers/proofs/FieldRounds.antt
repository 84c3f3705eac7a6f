-- From ready workers to the picks in the history of the field.
use Rattle.std.proofs.Common.{◌≡◌, ℕ, zero, suc, ◌+◌, ◌<◌, Bool, true, false, cond, eqb, List, [], ◌∷◌, ◌++◌, length, map, get_or, take, drop, refl, sym, ap, ◌∙◌, subst, arith, Some, None}
use Rattle.std.proofs.lemmas.List.{length-map, get_or-map}
use Rattle.pop_net.specs.declared.net.Word.{Word}
use Rattle.pop_leaf.specs.NetModel.{NetModel}
use Rattle.pop_net.specs.Lanes.{crowd_of, tuple_of}
use Rattle.pop_crowd.specs.declared.crowd.Meeting.{Meeting}
use Rattle.pop_crowd.specs.Replay.{replay}
use Rattle.agent_field.specs.declared.field.Field.{Field}
use Rattle.agent_field.specs.declared.field.FieldSeat.{FieldSeat}
use Rattle.agent_field.specs.declared.view.Logged.{Logged}
use Rattle.agent_field.specs.History.{IsHistory, calls, calls_from, logged, listed_if}
use Rattle.agent_field.specs.Seats.{log_of, taken_of}
use Rattle.pair_workers.specs.declared.work.Worker.{Worker}
use Rattle.run_picks.specs.Run.{meetings_of, pairs}
use Rattle.run_picks.specs.Turns.{HasPicked, ArePlayed}
use Rattle.pair_workers.specs.Work.{HasMade, HasWorked, IsReady, IsDone, AreReady, AreDone, HasAll, agents_of_field, pairs_of}
use Rattle.pop_crowd.proofs.Reached.{length-replay}

-- a list is its first element and the others
pub front : {A : Type 0} (xs ys : List A) (x : A) → 0 < length xs → x ≡ get_or xs 0 x → ys ≡ take 0 xs ++ drop 1 xs → xs ≡ x ∷ ys
front [] ys x some is rest = absurd (omega (arith, some))
front {A = A} (z ∷ zs) ys x some is rest = ap (λ (w : A). w ∷ zs) (sym is) ∙ ap (λ (l : List A). x ∷ l) (sym rest)

is_done : (f : Field) (turns : ℕ) (observed : Bool) (number : ℕ) (picker : List ℕ) (before after : Worker) → IsReady f turns number picker before → HasWorked f turns observed before after → IsDone f turns observed number picker after
is_done f turns observed number picker before after ready worked = record {
  ours = worked.ours;
  numbered = worked.kept.0 ∙ ready.numbered;
  made = subst (λ (p : List ℕ). HasMade f turns p after.picker (log_of after.seat)) ready.picker_is worked.made;
  all = worked.all;
}

-- the workers of a slice that is the list, after their turns
pub are_done : (f : Field) (turns : ℕ) (observed : Bool) (pickers : List (List ℕ)) (before slice after : List Worker) → slice ≡ before → AreReady f turns pickers before → length after ≡ length slice
    → ((i : ℕ) (d : Worker) → i < length slice → HasWorked f turns observed (get_or slice i d) (get_or after i d)) → AreDone f turns observed pickers after
are_done f turns observed pickers before slice after value ready same worked =
    let long = same ∙ ap (length {A = Worker}) value in (
      long ∙ ready.0,
      λ i d e h.
          let within = subst (λ (n : ℕ). i < n) long h in
          let made = subst (λ (l : List Worker). HasWorked f turns observed (get_or l i d) (get_or after i d)) value (worked i d (subst (λ (n : ℕ). i < n) same h)) in
          is_done f turns observed (i + 1) (get_or pickers i e) (get_or before i d) (get_or after i d) (ready.1 i d e within) made,
    )

pairs_if : (b : Bool) (m : Meeting) (t : ℕ) (es : List Logged) (ms : List Meeting) → pairs ms ≡ pairs_of es → pairs (cond b (m ∷ ms) ms) ≡ pairs_of (listed_if b (logged t m.a m.b m.changed) es)
pairs_if true m t es ms h = ap (λ (ps : List (ℕ × ℕ)). (m.a, m.b) ∷ ps) h
pairs_if false m t es ms h = h

-- a number's meetings have the pairs of its log
pub pairs_called : (w t : ℕ) (ms : List Meeting) → pairs (meetings_of w ms) ≡ pairs_of (calls_from w t ms)
pairs_called w t [] = refl
pairs_called w t (m ∷ ms) = pairs_if (eqb m.worker w) m t (calls_from w (t + 1) ms) (meetings_of w ms) (pairs_called w (t + 1) ms)

module _ (f : Field) (turns : ℕ) (own : List ℕ) (pickers : List (List ℕ)) (done : List Worker) (first : Worker) (s : FieldSeat) (meetings : List Meeting) where
  -- each worker's meetings are its next picks, including those of number 0
  pub all_picked : HasPicked (agents_of_field f) turns own first.picker (pairs_of (log_of first.seat)) → AreDone f turns false pickers done → HasAll f done first.seat s
      → calls 0 meetings ≡ log_of s → ((w : ℕ) (l : List Logged) → get_or (taken_of s) w None ≡ Some l → calls w meetings ≡ l)
      → (w : ℕ) (d : List ℕ) → w < length pickers + 1
      → HasPicked (agents_of_field f) turns (get_or (own ∷ pickers) w d) (get_or (first.picker ∷ map (λ (v : Worker). v.picker) done) w d) (pairs (meetings_of w meetings))
  all_picked mine others all logs taken zero d h =
      let made : pairs_of (log_of first.seat) ≡ pairs (meetings_of 0 meetings) = ap pairs_of (sym all.own ∙ sym logs) ∙ sym (pairs_called 0 0 meetings) in
      subst (HasPicked (agents_of_field f) turns own first.picker) made mine
  all_picked mine others all logs taken (suc i) d h =
      let within : i < length done = omega (arith, others.0, h) in
      let is = others.1 i first d within in
      let next : suc i ≡ i + 1 = omega arith in
      let made : pairs_of (log_of (get_or done i first).seat) ≡ pairs (meetings_of (suc i) meetings) = ap pairs_of (sym (taken (suc i) _ (ap (λ (k : ℕ). get_or (taken_of s) k None) next ∙ all.taken i first within))) ∙ sym (pairs_called (suc i) 0 meetings) in
      let stands : (get_or done i first).picker ≡ get_or (map (λ (v : Worker). v.picker) done) i d = sym (get_or-map (λ (v : Worker). v.picker) done i first d within) in
      subst (λ (t : ℕ × List ℕ × List (ℕ × ℕ)). HasPicked (agents_of_field f) t.0 (get_or pickers i d) t.1 t.2) (λ j. (is.all refl j, stands j, made j)) is.made.picked

pub are_played : (net : NetModel) (opening words : List Word) (workers turns : ℕ) (before after : List (List ℕ)) (meetings : List Meeting) → crowd_of net words ≡ replay net meetings (crowd_of net opening)
    → IsHistory net workers opening meetings → ((w : ℕ) (d : List ℕ) → w < workers → HasPicked (length opening) turns (get_or before w d) (get_or after w d) (pairs (meetings_of w meetings)))
    → ArePlayed net (crowd_of net opening) workers turns before after meetings (crowd_of net words)
are_played net opening words workers turns before after meetings replays history picked =
    record {
      marked = history.marked;
      replays = sym replays;
      picked = λ w d h. subst (λ (n : ℕ). HasPicked n turns (get_or before w d) (get_or after w d) (pairs (meetings_of w meetings))) (sym (length-map opening (tuple_of net))) (picked w d h);
      nobody_else = history.numbers;
    }

pub as_long : (net : NetModel) (opening words : List Word) (meetings : List Meeting) → crowd_of net words ≡ replay net meetings (crowd_of net opening) → length words ≡ length opening
as_long net opening words meetings replays =
    sym (length-map words (tuple_of net))
    ∙ ap length replays
    ∙ length-replay net meetings (crowd_of net opening)
    ∙ length-map opening (tuple_of net)
