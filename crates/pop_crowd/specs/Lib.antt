pub mod Replay
pub mod Crowds
pub mod Tally
pub mod Shown
pub mod Examples
pub mod Calls
