-- Picks and runs worked out by hand.
use Rattle.std.specs.Prelude.{◌≡◌, ℕ, [], ◌∷◌, true}
use Rattle.pop_leaf.specs.InputCrowd.{input_crowd}
use Rattle.pop_net.specs.ExampleNets.{majority}
use Rattle.pop_crowd.specs.declared.crowd.Meeting.{Meeting}
use Rattle.run_spec.specs.declared.spec.RunSpec.{RunSpec}
use Rattle.run_picks.specs.Picks.{first_state, picks}
use Rattle.run_picks.specs.Run.{IsRun}
use Rattle.rand_xoshiro.specs.Xoshiro256.{plus_plus}

pub record PickExamples : Type 0 where
  pub state : first_state 0 0 ≡ 0xe220a8397b1dcdaf ∷ 0x6e789e6aa1b965f4 ∷ 0x06c45d188009454f ∷ 0xf88bb8a8724c81ec ∷ []
  pub first_word : (plus_plus (first_state 0 0)).0 ≡ 0x53175d61490b23df
  pub of_two : picks 0 0 2 2 ≡ (1, 0) ∷ (1, 0) ∷ []
  pub of_three : picks 0 0 3 2 ≡ (2, 1) ∷ (1, 2) ∷ []

abbrev pub example_meeting : ℕ → ℕ → Meeting
example_meeting a b = record { worker = 0; a = a; b = b; changed = true }

-- one worker with two turns and seed 0
abbrev pub two_turns : RunSpec
two_turns = record { workers = 1; shards = 16; turns = 2; seed = 0 }

pub record RunExamples : Type 0 where
  -- A and B become b and a, and then b and b
  pub run : IsRun majority (input_crowd majority (1 ∷ 1 ∷ [])) two_turns ((example_meeting 1 0 ∷ example_meeting 1 0
      ∷ []) ∷ []) ((3 ∷ []) ∷ (3 ∷ []) ∷ [])
  -- no meeting while there are turns
  pub empty : IsRun majority (input_crowd majority (1 ∷ 1 ∷ [])) two_turns [] (input_crowd majority (1 ∷ 1 ∷ [])) → ⊥
  -- meetings that are no picks
  pub not_picked :
      IsRun majority (input_crowd majority (1 ∷ 1 ∷ [])) two_turns ((example_meeting 0 1 ∷ example_meeting 0 1 ∷ [])
      ∷ []) ((3 ∷ []) ∷ (3 ∷ []) ∷ []) → ⊥
