pub mod Stays
pub mod Reached
pub mod ClosedGoal
pub mod Laws
