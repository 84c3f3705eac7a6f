-- Rounds of a watched run, one after the other, and its last round.
use Rattle.std.proofs.Common.{◌≡◌, ◌⊎◌, inl, inr, ℕ, ◌+◌, ◌-◌, ◌<◌, ◌≤◌, min, List, [], ◌∷◌, ◌++◌, length, get_or, ap, sym, subst, ◌∙◌, arith}
use Rattle.std.specs.Prelude.{Some, slice_get}
use Rattle.std.proofs.Math.Nat.{le-min}
use Rattle.std.proofs.lemmas.List.{append-nil, length-append, map-append}
use Rattle.pop_leaf.specs.NetModel.{NetModel, CrowdModel}
use Rattle.pop_leaf.specs.Step.{Step}
use Rattle.pop_leaf.specs.Terminal.{IsTerminal}
use Rattle.pop_crowd.specs.declared.crowd.Meeting.{Meeting}
use Rattle.run_spec.specs.declared.spec.RunSpec.{RunSpec}
use Rattle.run_picks.specs.Picks.{picks, first_state}
use Rattle.run_picks.specs.Run.{IsRound, joined, pairs, meetings_of, made_by}
use Rattle.run_picks.specs.Turns.{HasPicked, ArePlayed}
use Rattle.run_picks.proofs.Rounds.{get_pushed}
use Rattle.run_picks.proofs.Turns.{picked_on}
use Rattle.run_picks.proofs.ManyRounds.{AreOnTheRun, all_more_rounds, all_run_over, next_turns, as_many, all_of, all_marked, all_replayed, all_go_on}
use Rattle.run_picks.specs.WatchedRun.{IsWatchedRound, IsWatchedRunUntil, AreSpent}
use Rattle.run_picks.proofs.WholeWatched.{watched_round, whole_is_watched}
use Rattle.run_picks.specs.declared.alone.End.{End}
use Rattle.run_picks.specs.declared.alone.End.TheVariants.{Terminal, Open}
use Rattle.run_picks.specs.Ends.{IsEndOf}
use Rattle.pop_watch.specs.Playing.{ArePlaying, AreAllMade}
use Rattle.pop_watch.specs.WatchedEnds.{WatchedEndsBy}

-- the run goes on, or it is over in a crowd that is terminal in rest
abbrev pub IsOnTheWay : NetModel → NetModel → CrowdModel → RunSpec → List (List Meeting) → CrowdModel → List (List ℕ) → ℕ → Type 0
IsOnTheWay rest net start spec rounds crowd pickers left =
    AreOnTheRun rest net start spec rounds crowd pickers left ⊎ (IsWatchedRunUntil rest net start spec rounds crowd × IsTerminal (Step rest) crowd)

module _ (rest net : NetModel) (start : CrowdModel) (spec : RunSpec) (rounds : List (List Meeting)) (crowd : CrowdModel) (pickers : List (List ℕ)) (left : ℕ) where
  module _ (end : CrowdModel) (after : List (List ℕ)) (round : List Meeting) (p : ArePlaying net crowd spec.workers pickers after round end) where
    -- a whole round
    all_played : AreAllMade spec.workers (min 4096 left) round → ArePlayed net crowd spec.workers (min 4096 left) pickers after round end
    all_played all = record {
      marked = p.marked;
      replays = p.replays;
      picked = λ w d l. subst (λ (n : ℕ). HasPicked (length crowd) n (get_or pickers w d) (get_or after w d) (pairs (meetings_of w round))) (all w l) (p.picked w d l);
      nobody_else = p.nobody_else;
    }

    module _ (h : AreOnTheRun rest net start spec rounds crowd pickers left) (some : 1 ≤ left) (goes : IsTerminal (Step rest) crowd → ⊥) (few : (w : ℕ) → w < spec.workers → made_by w round ≤ min 4096 left) where
      last_round : IsWatchedRound spec (length rounds + 1) round
      last_round = record {
        some_turn = subst (λ n. 1 ≤ n) (sym (next_turns net start spec rounds crowd pickers left h)) (let four : 1 ≤ 4096 = omega arith in le-min four some);
        each_worker = λ w l. subst (λ n. made_by w round ≤ n) (sym (next_turns net start spec rounds crowd pickers left h)) (few w l);
        nobody_else = p.nobody_else;
      }

      more_picked : (w : ℕ) → w < spec.workers → pairs (meetings_of w (joined rounds) ++ meetings_of w round) ≡ picks spec.seed w (length start) (length (meetings_of w (joined rounds) ++ meetings_of w round))
      more_picked w l =
          let xs = meetings_of w (joined rounds) in
          let ys = meetings_of w round in
          let next = subst (λ (n : ℕ). HasPicked n (length ys) (get_or pickers w []) (get_or after w []) (pairs ys)) (as_many net start spec rounds crowd pickers left h) (p.picked w [] l) in
          let both = picked_on (length start) (length xs) (length ys) (first_state spec.seed w) (get_or pickers w []) (get_or after w []) (pairs xs) (pairs ys) (h.picked w [] l) next in
          map-append (λ (m : Meeting). (m.a, m.b)) xs ys
          ∙ sym (append-nil (pairs xs ++ pairs ys))
          ∙ sym (both.picked 0)
          ∙ ap (λ n. picks spec.seed w (length start) n) (let e : length xs + length ys + 0 ≡ length (xs ++ ys) = omega (arith, length-append xs ys) in e)

      -- a last round that may lack meetings, since its crowd is terminal
      pub stopped_run : IsTerminal (Step rest) end → IsWatchedRunUntil rest net start spec (rounds ++ round ∷ []) end
      stopped_run terminal =
          record {
            each_round = λ k meetings e. each_case k meetings (get_pushed rounds round meetings k e);
            whole = λ k meetings l e. whole_case k meetings (omega (arith, l, length-append rounds (round ∷ []))) (get_pushed rounds round meetings k e);
            picked = λ w l. subst (λ (ms : List Meeting). pairs ms ≡ picks spec.seed w (length start) (length ms)) (sym (all_of net start spec rounds crowd pickers left h round w)) (more_picked w l);
            marked = all_marked net start spec rounds crowd pickers left h round p.marked;
            replays = all_replayed net start spec rounds crowd pickers left h round end p.replays;
            goes_on = all_go_on net start spec rounds crowd pickers left h round goes;
            over = inl terminal;
          }
        where
          each_case : (k : ℕ) (meetings : List Meeting) → (slice_get rounds k ≡ Some meetings) ⊎ ((k ≡ length rounds) × (round ≡ meetings)) → IsWatchedRound spec (k + 1) meetings
          each_case k meetings (inl e) = watched_round spec (k + 1) meetings (h.each k meetings e)
          each_case k meetings (inr e) = rw (e.0, ← e.1) last_round

          whole_case : (k : ℕ) (meetings : List Meeting) → k < length rounds → (slice_get rounds k ≡ Some meetings) ⊎ ((k ≡ length rounds) × (round ≡ meetings)) → IsRound spec (k + 1) meetings
          whole_case k meetings l (inl e) = h.each k meetings e
          whole_case k meetings l (inr e) = absurd (omega (arith, l, e.0))

    -- one more round of a run that goes on
    pub one_round_more : IsOnTheWay rest net start spec rounds crowd pickers left → 1 ≤ left → (IsTerminal (Step rest) crowd → ⊥) → ((w : ℕ) → w < spec.workers → made_by w round ≤ min 4096 left)
        → AreAllMade spec.workers (min 4096 left) round ⊎ IsTerminal (Step rest) end → IsOnTheWay rest net start spec (rounds ++ round ∷ []) end after (left - min 4096 left)
    one_round_more (inr over) some goes few ends = absurd (goes over.1)
    one_round_more (inl on) some goes few (inl all) = inl (all_more_rounds net start spec rounds crowd pickers left on end after round (all_played all) some goes)
    one_round_more (inl on) some goes few (inr t) = inr (stopped_run on some goes few t, t)

  -- such a run, once it is over
  pub run_over : IsOnTheWay rest net start spec rounds crowd pickers left → IsTerminal (Step rest) crowd ⊎ (left ≡ 0) → IsWatchedRunUntil rest net start spec rounds crowd
  run_over (inl on) over = whole_is_watched net start spec rounds crowd (all_run_over net start spec rounds crowd pickers left on over)
  run_over (inr stopped) over = stopped.0

pub ends_by : (net : NetModel) (crowd : CrowdModel) (spec : RunSpec) (rounds : List (List Meeting)) (end : End) → IsEndOf net crowd end → IsTerminal (Step net) crowd ⊎ AreSpent spec rounds → WatchedEndsBy net crowd spec rounds end
ends_by net crowd spec rounds Terminal is over = is
ends_by net crowd spec rounds (Open a b) is (inl terminal) = absurd (is.1 terminal)
ends_by net crowd spec rounds (Open a b) is (inr spent) = (is.0, spent, is.1)
