pub mod Bounds
pub mod Firsts
pub mod PartWalk
pub mod OneFault
pub mod NetEnds
pub mod Outputs
pub mod Meetings
pub mod Settles
pub mod Fairness
pub mod LeastMoves
pub mod Synchronous
pub mod Random
pub mod OneLayer
pub mod Verdicts
pub mod RightEnds
pub mod MajorityProof
pub mod Combined
pub mod OneTame
pub mod LeafKinds
mod StableFirsts
mod OneSetFault
mod OneGoalFault
pub mod OneStableFault
pub mod StableSound
pub mod SilentParts
