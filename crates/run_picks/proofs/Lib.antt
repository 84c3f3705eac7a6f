pub mod FirstPicks
pub mod Played
mod Quotients
mod CountedPicks
pub mod Rounds
pub mod OnlyRun
pub mod Meets
pub mod Turns
pub mod ManyRounds
pub mod RunEnds
pub mod SpentTurns
pub mod WholeWatched
pub mod Taken
pub mod KeptAll
pub mod SameLanes
