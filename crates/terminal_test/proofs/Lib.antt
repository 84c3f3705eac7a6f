pub mod Pairwise
pub mod Ends
pub mod Searches
pub mod LoudPairs
pub mod RestlessStates
mod Outputs
mod SeenStates
