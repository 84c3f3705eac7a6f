pub mod InputSize
pub mod Starts
pub mod Begun
pub mod Certified
pub mod OneLast
pub mod OneBundle
pub mod OtherEndings
