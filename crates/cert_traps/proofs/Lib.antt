pub mod Lists
pub mod PresentEnds
pub mod TakenMoves
pub mod TrapEnds
pub mod SiphonEnds
pub mod FirstEnds
pub mod Covers
