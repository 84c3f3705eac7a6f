pub mod Goals
pub mod Ways
pub mod ValidGoals
mod NoSets
