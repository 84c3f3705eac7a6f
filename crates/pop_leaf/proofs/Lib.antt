pub mod Found
pub mod Reactions
pub mod Quiet
pub mod Silent
pub mod FirstFault
pub mod LeafFaults
pub mod Within
pub mod Tables
pub mod Copied
pub mod Crowds
pub mod Kept
mod Marked
pub mod HushedMoves
