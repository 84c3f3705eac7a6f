pub mod Halves
pub mod Pairs
pub mod Rows
pub mod Shares
