use Rattle.std.proofs.Common.{◌≡◌, ◌≢◌, ◌⊎◌, inl, inr, ℕ, zero, suc, ◌+◌, ◌*◌, ◌<◌, ◌≤◌, List, [], ◌∷◌, length, refl, ap, ◌∙◌, arith}
use Rattle.std.specs.Prelude.{Some, slice_get, slice_index, map, take}
use Rattle.std.proofs.lemmas.List.Elements.{All-cons, All-nil}
use Rattle.pop_leaf.specs.Step.{Step}
use Rattle.pop_leaf.specs.Terminal.{IsTerminal}
use Rattle.pop_net.specs.ExampleNets.{majority, majority_leaf, move}
use Rattle.pop_net.proofs.OneLeaf.{one_leaf_step}
use Rattle.pop_leaf.proofs.Quiet.{is_ended-terminal}
use Rattle.pop_crowd.specs.declared.crowd.Meeting.{Meeting}
use Rattle.pop_crowd.specs.Replay.{replay}
use Rattle.run_picks.specs.Run.{meetings_of, pairs, joined, IsRound}
use Rattle.run_picks.specs.Picks.{picks}
use Rattle.run_picks.specs.Examples.{example_meeting, two_turns}
use Rattle.run_picks.proofs.FirstPicks.{picks_of_two}
use Rattle.run_picks.proofs.examples.run_examples.Goals as goal

zero_one : ◌≢◌ {A = ℕ} 0 1
zero_one e = omega arith

not_ended : IsTerminal (Step majority) ((0 ∷ []) ∷ (1 ∷ []) ∷ []) → ⊥
not_ended t =
    let e = t _ (one_leaf_step majority majority_leaf ((0 ∷ []) ∷ (1 ∷ []) ∷ []) 0 1 0 1 2 3 refl zero_one refl refl (inr (record { number = 0; taken = move 0 1 2 3; listed = refl; non_silent = refl; followed = inl (refl, refl, refl, refl) }))) in
    cc

abbrev only_round : List Meeting
only_round = example_meeting 1 0 ∷ example_meeting 1 0 ∷ []

each_worker : (w : ℕ) → w < 1 → length (meetings_of w only_round) ≡ 2
each_worker zero l = refl
each_worker (suc w) l = absurd (omega arith)

below_one : ◌<◌ 0 1
below_one = omega arith

is_round : IsRound two_turns 1 only_round
is_round = record {
  some_turn = let l : 1 ≤ 2 = omega arith in l;
  each_worker = each_worker;
  nobody_else = All-cons (λ (m : Meeting). m.worker < 1) (example_meeting 1 0) (example_meeting 1 0 ∷ []) below_one (All-cons (λ (m : Meeting). m.worker < 1) (example_meeting 1 0) [] below_one (All-nil (λ (m : Meeting). m.worker < 1)));
}

each_round : (k : ℕ) (meetings : List Meeting) → slice_get (only_round ∷ []) k ≡ Some meetings → IsRound two_turns (k + 1) meetings
each_round zero meetings h = let same : only_round ≡ meetings = cc in rw (← same) is_round
each_round (suc k) meetings h = cc

picked : (w : ℕ) → w < 1 → pairs (meetings_of w (joined (only_round ∷ []))) ≡ picks 0 w 2 (length (meetings_of w (joined (only_round ∷ []))))
picked zero l = rw picks_of_two refl
picked (suc w) l = absurd (omega arith)

goes_on : (k : ℕ) → k < 1 → IsTerminal (Step majority) (replay majority (joined (take k (only_round ∷ []))) ((0 ∷ []) ∷ (1 ∷ []) ∷ [])) → ⊥
goes_on zero l t = not_ended t
goes_on (suc k) l t = omega arith

no_end : IsTerminal (Step majority) ((0 ∷ []) ∷ (1 ∷ []) ∷ []) ⊎ (2 ≤ 4096 * 0) → ⊥
no_end (inl t) = not_ended t
no_end (inr l) = omega arith

apart : ◌≡◌ {A = List (ℕ × ℕ)} ((0, 1) ∷ (0, 1) ∷ []) ((1, 0) ∷ (1, 0) ∷ []) → ⊥
apart e = let f : ◌≡◌ {A = ℕ} 0 1 = ap (λ xs. slice_index (map (λ (p : ℕ × ℕ). p.0) xs) 0) e in omega arith

wrong_picks : ((0, 1) ∷ (0, 1) ∷ []) ≡ picks 0 0 2 2 → ⊥
wrong_picks e = apart (e ∙ picks_of_two)

pub returns : goal.returns
returns c =
    record {
      run = record {
        each_round = each_round;
        picked = picked;
        marked = (refl, (refl, tt));
        replays = refl;
        goes_on = goes_on;
        over = inl (is_ended-terminal majority ((3 ∷ []) ∷ (3 ∷ []) ∷ []) refl);
      };
      empty = λ r. no_end r.over;
      not_picked = λ r. wrong_picks (r.picked 0 below_one);
    }
