pub mod Expected
pub mod Rounds
pub mod Standing
pub mod Form
pub mod ReadLines
pub mod Laws
pub mod FirstPair
pub mod Calls
