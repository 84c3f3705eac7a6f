pub mod Combined
pub mod Led
pub mod Moves
pub mod LeafByLeaf
