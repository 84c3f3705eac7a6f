pub mod Sums
pub mod Powers
pub mod Chance
pub mod Listed
pub mod Pairs
pub mod Settled
pub mod AlmostSurely
