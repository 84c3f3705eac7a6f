pub mod Tosses
pub mod Steps
