pub mod Pairs
pub mod Agreement
pub mod Loud
pub mod TableNet
pub mod Restless
