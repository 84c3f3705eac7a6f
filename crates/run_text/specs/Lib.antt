pub mod Journal
pub mod Ending
pub mod Reasons
pub mod Difference
