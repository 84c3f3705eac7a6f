pub mod Paths
pub mod Faults
pub mod Shapes
pub mod Parts
pub mod Reasons
