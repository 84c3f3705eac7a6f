pub mod ThresholdLeaf
pub mod ThresholdProof
pub mod Built
