-- Examples: three agents of the majority protocol, two of x and one of y, drawn at random.
use Rattle.std.specs.Prelude.{◌≡◌, [], ◌∷◌, true}
use Rattle.pop_net.specs.ExampleNets.{majority}
use Rattle.pop_leaf.specs.NetModel.{CrowdModel}
use Rattle.pop_leaf.specs.InputCrowd.{input_crowd}
use Rattle.theory_random.specs.RandomMeetings.{pairs, unsettled, total_time}

abbrev pub three_agents : CrowdModel
three_agents = input_crowd majority (2 ∷ 1 ∷ [])

pub record RandomExamples : Type 0 where
  pub six_pairs : pairs 3 ≡ (0, 1) ∷ (0, 2) ∷ (1, 0) ∷ (1, 2) ∷ (2, 0) ∷ (2, 1) ∷ []
  -- one meeting never settles the three; two do if A and B meet, and then the A that is left and b: in 4 * 2 of 36 runs
  pub after_one : unsettled majority true 1 three_agents ≡ 6
  pub after_two : unsettled majority true 2 three_agents ≡ 28
  -- all runs of two meetings make both; of the 216 runs of three, those 48 stop after two
  pub time_of_two : total_time majority true 2 three_agents ≡ 72
  pub time_of_three : total_time majority true 3 three_agents ≡ 600
