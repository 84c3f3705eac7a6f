pub mod Statuses
pub mod Steps
pub mod Refusals
pub mod Differences
pub mod Lines
pub mod Json
