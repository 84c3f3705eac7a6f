pub mod Awake
mod Guarded
mod GoodSets
pub mod Woken
