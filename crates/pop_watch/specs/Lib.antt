pub mod WatchedEnds
pub mod Laws
pub mod Work
pub mod Playing
pub mod RunsOfKind
pub mod WrittenRuns
pub mod WrittenAlone
pub mod WrittenRound
