pub mod Endings
pub mod OneRun
mod Ends
mod Made
