pub mod Cuts
pub mod NameLists
pub mod Once
pub mod Firsts
pub mod Limits
