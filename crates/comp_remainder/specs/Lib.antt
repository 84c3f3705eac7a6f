pub mod RemainderLeaf
pub mod RemainderLayers
pub mod RemainderProof
