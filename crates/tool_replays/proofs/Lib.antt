pub mod Endings
pub mod OneReplay
