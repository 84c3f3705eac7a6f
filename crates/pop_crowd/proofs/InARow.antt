-- Meetings in a row are one replay.
use Rattle.std.proofs.Common.{◌≡◌, List, [], ◌∷◌, ◌++◌, refl}
use Rattle.pop_leaf.specs.NetModel.{NetModel, CrowdModel}
use Rattle.pop_leaf.specs.Reaction.{after_meeting}
use Rattle.pop_crowd.specs.declared.crowd.Meeting.{Meeting}
use Rattle.pop_crowd.specs.Replay.{replay}

pub replay_append : (net : NetModel) (first more : List Meeting) (crowd : CrowdModel) → replay net (first ++ more) crowd ≡ replay net more (replay net first crowd)
replay_append net [] more crowd = refl
replay_append net (m ∷ first) more crowd = replay_append net first more (after_meeting net m.a m.b crowd)

-- one more meeting
pub replay-push : (net : NetModel) (first : List Meeting) (m : Meeting) (crowd : CrowdModel)
    → replay net (first ++ m ∷ []) crowd ≡ after_meeting net m.a m.b (replay net first crowd)
replay-push net first m crowd = replay_append net first (m ∷ []) crowd
