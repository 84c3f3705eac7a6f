pub mod Conditions
pub mod Kept
pub mod Sums
pub mod Trails
