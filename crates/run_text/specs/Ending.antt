-- The ending of a crowd: the last line of a journal that ends in it.
use Rattle.std.specs.Prelude.{ℕ, ◌+◌, ◌-◌, Bool, true, false, not, [], ◌∷◌, length}
use Rattle.std.specs.Prelude.{Option, Some, None, is_none, option_map, if◌then◌else◌}
use Rattle.std.specs.List.{list_all, range_with_len}
use Rattle.pop_leaf.specs.NetModel.{NetModel, CrowdModel, output_of}
use Rattle.pop_crowd.specs.Replay.{changes}
use Rattle.pop_words.specs.Options.{first_given}
use Rattle.run_text.specs.declared.last.Last.{Last}
use Rattle.run_text.specs.declared.last.Last.TheVariants.{Verdict, Terminal, Undecided, Settled}
use Rattle.run_text.specs.declared.last.Outcome.{Outcome}
use Rattle.run_text.specs.declared.last.Outcome.TheVariants.{Agreed, Known}

-- agent b, if its meeting with a changes a tuple
abbrev pub partner_if : NetModel → CrowdModel → ℕ → ℕ → Option ℕ
partner_if net crowd a b = if changes net a b crowd then Some b else None

-- agent a with the first agent after it that it changes with
abbrev pub with_partner : NetModel → CrowdModel → ℕ → Option (ℕ × ℕ)
with_partner net crowd a =
    option_map (λ b. (a, b)) (first_given (partner_if net crowd a) (range_with_len (a + 1) (length crowd - (a + 1))))

-- the least pair of agents whose meeting changes a tuple, by the first and then by the second
abbrev pub least_pair : NetModel → CrowdModel → Option (ℕ × ℕ)
least_pair net crowd = first_given (with_partner net crowd) (range_with_len 0 (length crowd))

abbrev pub is_terminal : NetModel → CrowdModel → Bool
is_terminal net crowd = is_none (least_pair net crowd)

abbrev pub same_truth : Bool → Bool → Bool
same_truth true b = b
same_truth false b = not b

-- the common output of all agents, if they have one
abbrev pub common_output : NetModel → CrowdModel → Option Bool
common_output net [] = None
common_output net (t ∷ crowd) =
    if list_all (λ u. same_truth (output_of net u) (output_of net t)) crowd then Some (output_of net t) else None

abbrev pub quiet_ending : Option Bool → Last
quiet_ending None = Terminal
quiet_ending (Some value) = Verdict value

-- where a run is over: the common output if there is one, or the value that is known
abbrev pub rest_ending : Outcome → Option Bool → Last
rest_ending Agreed output = quiet_ending output
rest_ending (Known value) output = Settled value

abbrev pub ending_with : Outcome → Option (ℕ × ℕ) → Option Bool → Last
ending_with outcome None output = rest_ending outcome output
ending_with outcome (Some pair) output = Undecided pair.0 pair.1

-- the least pair that changes in the first net if the crowd isn't terminal there, else what the run came to
abbrev pub ending_until : NetModel → Outcome → NetModel → CrowdModel → Last
ending_until rest outcome net crowd = ending_with outcome (least_pair rest crowd) (common_output net crowd)

-- the least pair that changes if the crowd isn't terminal, else the common output if there is one
abbrev pub ending_of : NetModel → CrowdModel → Last
ending_of net crowd = ending_until net Agreed net crowd

abbrev pub last_is_undecided : Last → Bool
last_is_undecided (Undecided a b) = true
last_is_undecided (Verdict value) = false
last_is_undecided Terminal = false
last_is_undecided (Settled value) = false
