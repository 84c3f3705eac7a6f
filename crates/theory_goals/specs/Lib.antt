pub mod AnyNet
pub mod OutputStable
pub mod AlmostSurely
pub mod StablyRight
pub mod LeafGoals
pub mod Kinds
pub mod Laws
pub mod Flicker
