pub mod Reached
pub mod InARow
pub mod Words
pub mod Unmoved
mod Inputs
mod Counted
mod Names
mod Written
