pub mod Options
pub mod Numbers
pub mod Lists
pub mod Ranges
pub mod Swaps
