pub mod Renumbered
pub mod Parts
pub mod MoreMeetings
pub mod WatchedRounds
pub mod RunsOfKind
pub mod WrittenAll
