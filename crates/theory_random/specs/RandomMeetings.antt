-- RandomMeetings: each meeting is one of an ordered pair of different agents, and all pairs are equally likely.
use Rattle.std.specs.Prelude.{ℕ, ◌*◌, ◌-◌, ◌^◌, Bool, true, false, not, ◌&&◌, ◌==◌, List, map, flat_map, filter, length}
use Rattle.std.specs.Prelude.{count_by, sum_by}
use Rattle.std.specs.List.{list_all, range_with_len}
use Rattle.pop_leaf.specs.NetModel.{NetModel, CrowdModel, output_of}
use Rattle.pop_leaf.specs.Reaction.{after_meeting}
use Rattle.pop_crowd.specs.Replay.{changes}
use Rattle.theory_random.specs.UniformRuns.{lists_of, after_run, time}

-- the ordered pairs of different agents of n
abbrev pub pairs : ℕ → List (ℕ × ℕ)
pairs n = filter (λ p. not (p.0 == p.1)) (flat_map (λ a. map (λ b. (a, b)) (range_with_len 0 n)) (range_with_len 0 n))

-- the runs of l meetings of n agents
abbrev pub runs : ℕ → ℕ → List (List (ℕ × ℕ))
runs n l = lists_of (pairs n) l

-- how many there are of k meetings per agent
abbrev pub run_count : ℕ → ℕ → ℕ
run_count k n = (n * (n - 1)) ^ (k * n)

-- k steps per agent, times the number of pairs
abbrev pub cubic : ℕ → ℕ → ℕ
cubic k n = k * n * (n * (n - 1))

abbrev pub meet : NetModel → ℕ × ℕ → CrowdModel → CrowdModel
meet net p crowd = after_meeting net p.0 p.1 crowd

-- whether an output is the value
abbrev pub is_value : Bool → Bool → Bool
is_value true output = output
is_value false output = not output

-- whether no meeting changes the crowd, and the value is every agent's output
abbrev pub is_settled : NetModel → Bool → CrowdModel → Bool
is_settled net value crowd = list_all (λ p. not (changes net p.0 p.1 crowd)) (pairs (length crowd))
    && list_all (λ tuple. is_value value (output_of net tuple)) crowd

-- how many of the runs of l meetings leave the crowd unsettled
abbrev pub unsettled : NetModel → Bool → ℕ → CrowdModel → ℕ
unsettled net value l crowd =
    count_by (λ run. not (is_settled net value (after_run (meet net) run crowd))) (runs (length crowd) l)

-- how many meetings the runs of l meetings make before the crowd is settled, in all
abbrev pub total_time : NetModel → Bool → ℕ → CrowdModel → ℕ
total_time net value l crowd =
    sum_by (λ run. time (meet net) (is_settled net value) run crowd) (runs (length crowd) l)
