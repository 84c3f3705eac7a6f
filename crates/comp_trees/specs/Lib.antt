pub mod SortedLayers
pub mod DefinedLeaf
pub mod LeaderTree
pub mod BuiltLeaf
pub mod Bits
