pub mod CommandLine
pub mod Options
pub mod Words
pub mod Meetings
pub mod Vars
pub mod Counts
pub mod WordsBehind
pub mod Reasons
